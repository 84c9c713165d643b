-- What each name stands for.
use Rattle.std.specs.Prelude.{◌≡◌, ℕ, Bool, List, [], ◌∷◌, Option, None, Some, slice_get, if◌then◌else◌}
use Rattle.tc_model.specs.CompactSyntaxTrees.{SyntaxPattern, choice, interleave, Syntax}
use Rattle.tc_model.specs.SimplifiesParts.{pattern_of}
use Rattle.tc_model.specs.SimplifiesFaults.{twice_at}
use Rattle.tc_rnc.specs.Views.{pattern, patterns}
use Rattle.tc_rnc.specs.declared.syntax.SPat.{SPat}
use Rattle.tc_simple.specs.Places.{maybe_place}
use Rattle.tc_simple.specs.Gathered.{number_in}
use Rattle.tc_simple.specs.declared.groups.Table.{Table}

-- definitions joined by their operator; one alone is its pattern
abbrev pub joined_of : Bool → List SPat → SyntaxPattern
joined_of is_choice (p ∷ []) = pattern p
joined_of is_choice [] = if is_choice then choice (patterns []) else interleave (patterns [])
joined_of is_choice ps = if is_choice then choice (patterns ps) else interleave (patterns ps)

abbrev pub number_of : Table → List ℕ → Option ℕ
number_of t n = number_in t.numbers n

-- each name stands for the pattern of its number
pub record IsTable (s : Syntax) (t : Table) : Type 0 where
  pub absent : (n : List ℕ) → number_of t n ≡ None → pattern_of s n ≡ None
  pub present : (n : List ℕ) (k : ℕ) → number_of t n ≡ Some k → (p : SPat) × (slice_get t.patterns.items k ≡ Some p) × (pattern_of s n ≡ Some (pattern p))
  pub first : maybe_place t.clash ≡ twice_at s
