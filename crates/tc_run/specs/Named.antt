-- The names that are remembered with their symbols.
use Rattle.std.specs.Prelude.{◌≡◌, List, length, All, IfSome}
use Rattle.tc_model.specs.Symbols.{Mention, symbol_of}
use Rattle.tc_model.specs.Views.{name}
use Rattle.tc_run.specs.declared.known_names.Named.{Named}
use Rattle.tc_run.specs.declared.known_names.KnownNames.{KnownNames}

-- the symbol is that of the name
abbrev pub IsNamed : List Mention → Named → Type 0
IsNamed symbols k = k.sym.0 ≡ symbol_of symbols (name k.name)

-- that is so of each
pub record AreNamed (symbols : List Mention) (k : KnownNames) : Type 0 where
  pub places : length k.places.items ≡ 256
  pub named : All (λ o. IfSome o (IsNamed symbols)) k.places.items
