-- Names that are at hand with their symbols.
use Rattle.std.specs.Prelude.{◌≡◌, ◌<◌, ℕ, List, length, Option, All, IfSome}
use Rattle.tc_model.specs.Names.{ExpandedName}
use Rattle.tc_model.specs.Symbols.{Mention, symbol_count, symbol_of}
use Rattle.tc_model.specs.Views.{name}
use Rattle.tc_beh.specs.declared.symbols.Named.{Named}

-- a number is that of the symbol of a name
pub record IsSymbol (symbols : List Mention) (n : ExpandedName) (s : ℕ) : Type 0 where
  pub symbol : s ≡ symbol_of symbols n
  pub below : s < symbol_count symbols

-- the symbol of each name is right
pub record AreNamed (symbols : List Mention) (ns : List (Option Named)) : Type 0 where
  pub places : length ns ≡ 1024
  pub named : All (λ o. IfSome o (λ k. IsSymbol symbols (name k.name) k.sym.0)) ns
