-- Definitions, as the readers of them say what they read.
use Rattle.std.specs.Prelude.{◌≡◌, ◌⊎◌, ℕ, Bool, List, [], ◌∷◌, Some, None, codes}
use Rattle.tc_model.specs.RawTrees.{Bound}
use Rattle.tc_model.specs.CompactSyntaxTrees.{SyntaxPattern, Joins}
use Rattle.tc_model.specs.CompactSyntaxTokens.{Token}
use Rattle.tc_model.specs.CompactSyntaxNames.{IsWord, IsMark, identifier}
use Rattle.tc_model.specs.CompactSyntaxPatterns.{PatternAt}
use Rattle.tc_model.specs.CompactSyntax.{OperatorAt}

-- what follows the name of a definition: an operator and a pattern
pub data AssignedAt (others : Bool) (scope : List Bound) : ℕ → List Token → Joins → SyntaxPattern → List Token → Type 0 where
  assigned : {deepest : ℕ} {tokens rest after : List Token} {j : Joins} {p : SyntaxPattern} → OperatorAt tokens j rest → PatternAt others scope deepest rest p after
      → AssignedAt others scope deepest tokens j p after

-- a definition of this name begins with this token; that of `start` has the empty name
abbrev pub Defines : Token → List ℕ → Type 0
Defines t name = (IsWord (codes "start") t × (name ≡ [])) ⊎ (identifier t.word ≡ Some name)

abbrev pub DefinesNothing : Token → Type 0
DefinesNothing t = (IsWord (codes "start") t → ⊥) × (identifier t.word ≡ None)

-- definitions end here
abbrev pub IsEndOfDefinitions : List Token → Type 0
IsEndOfDefinitions [] = Unit {0}
IsEndOfDefinitions (t ∷ ts) = IsMark 0x7D t

-- this token stands first
abbrev pub IsFirst : Token → List Token → Type 0
IsFirst t ts = (rest : List Token) × (ts ≡ t ∷ rest)
