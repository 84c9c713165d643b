-- That nothing is left open of a text.
use Rattle.std.specs.Prelude.{◌⊎◌, ℕ, List}
use Rattle.tc_model.specs.CompactSyntaxTrees.{Syntax}
use Rattle.tc_model.specs.CompactSyntax.{CompactSyntax}
use Rattle.tc_model.specs.CompactSyntaxUnread.{Refusal}
use Rattle.tc_model.specs.CompactSyntaxRefused.{IsRefused}

-- any bytes have a syntax tree, or are refused
abbrev pub IsReadOrRefused : Type 0
IsReadOrRefused = (bytes : List ℕ) → ((s : Syntax) × CompactSyntax bytes s) ⊎ ((r : Refusal) × IsRefused bytes r)
