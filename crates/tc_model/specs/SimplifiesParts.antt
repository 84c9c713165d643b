-- What stands in the patterns of a schema as it is written: its definitions, joined as the RELAX NG Specification (OASIS 2001), 4.17, joins
-- them, its parts, and what is reached from `start`.
-- Several definitions of a name become one list, so one node and one level. `mixed` has its `text` first.
use Rattle.std.specs.Prelude.{◌≡◌, ℕ, Bool, true, false, List, [], ◌∷◌, ◌++◌, filter, Option, None, Some, ◌⊎◌, bytes_eq, if◌then◌else◌}
use Rattle.std.specs.List.{flat_map, list_any}
use Rattle.tc_model.specs.CompactSyntaxTrees.{SyntaxClass, SyntaxPattern, empty, not_allowed, text, attribute, ref, element, mixed, optional, zero_or_more, one_or_more, group, choice, interleave, SyntaxPatterns, no_more, more, Joins, plain, by_choice, by_interleave, Definition, Syntax}

abbrev pub definitions_of : List Definition → List ℕ → List Definition
definitions_of ds n = filter (λ d. bytes_eq d.name n) ds

abbrev pub is_choice : Joins → Bool
is_choice by_choice = true
is_choice _ = false

abbrev pub bodies_of : List Definition → SyntaxPatterns
bodies_of [] = no_more
bodies_of (d ∷ ds) = more d.body (bodies_of ds)

-- definitions of one name joined in order by their operator (RELAX NG, 4.17); one alone is its pattern
abbrev pub joined_definitions : List Definition → Option SyntaxPattern
joined_definitions [] = None
joined_definitions (d ∷ []) = Some d.body
joined_definitions (d ∷ e ∷ ds) =
    Some (if list_any (λ f. is_choice f.joins) (d ∷ e ∷ ds) then choice (bodies_of (d ∷ e ∷ ds)) else interleave (bodies_of (d ∷ e ∷ ds)))

-- the pattern for which a name stands; that of `start` has the empty name
abbrev pub pattern_of : Syntax → List ℕ → Option SyntaxPattern
pattern_of s n = joined_definitions (definitions_of s.definitions n)

abbrev mutual
  -- a pattern and all that stand in it, in the order of the text
  pub nodes_in : SyntaxPattern → List SyntaxPattern
  nodes_in empty = empty ∷ []
  nodes_in not_allowed = not_allowed ∷ []
  nodes_in text = text ∷ []
  nodes_in attribute = attribute ∷ []
  nodes_in (ref n place) = ref n place ∷ []
  nodes_in (element place c p) = element place c p ∷ nodes_in p
  nodes_in (mixed p) = mixed p ∷ nodes_in p
  nodes_in (optional p) = optional p ∷ nodes_in p
  nodes_in (zero_or_more p) = zero_or_more p ∷ nodes_in p
  nodes_in (one_or_more p) = one_or_more p ∷ nodes_in p
  nodes_in (group ps) = group ps ∷ nodes_in_all ps
  nodes_in (choice ps) = choice ps ∷ nodes_in_all ps
  nodes_in (interleave ps) = interleave ps ∷ nodes_in_all ps

  pub nodes_in_all : SyntaxPatterns → List SyntaxPattern
  nodes_in_all no_more = []
  nodes_in_all (more p ps) = nodes_in p ++ nodes_in_all ps

abbrev pub nodes_of : Syntax → List SyntaxPattern
nodes_of s = flat_map (λ d. nodes_in d.body) s.definitions

abbrev pub IsAmong : SyntaxPatterns → SyntaxPattern → Type 0
IsAmong no_more q = ⊥
IsAmong (more p ps) q = (q ≡ p) ⊎ IsAmong ps q

-- a pattern stands directly in a pattern that is no element
abbrev pub IsOpenPart : SyntaxPattern → SyntaxPattern → Type 0
IsOpenPart (mixed p) q = q ≡ p
IsOpenPart (optional p) q = q ≡ p
IsOpenPart (zero_or_more p) q = q ≡ p
IsOpenPart (one_or_more p) q = q ≡ p
IsOpenPart (group ps) q = IsAmong ps q
IsOpenPart (choice ps) q = IsAmong ps q
IsOpenPart (interleave ps) q = IsAmong ps q
IsOpenPart _ q = ⊥

-- a pattern stands in another, at any depth and through references, and not within an element there
pub data Below (s : Syntax) : SyntaxPattern → SyntaxPattern → Type 0 where
  part : {p q : SyntaxPattern} → IsOpenPart p q → Below s p q
  reference : {n : List ℕ} {place : ℕ} {q : SyntaxPattern} → pattern_of s n ≡ Some q → Below s (ref n place) q
  further : {p q r : SyntaxPattern} → Below s p q → Below s q r → Below s p r

-- a pattern is reached from `start`, through references and through elements too
pub data Reached (s : Syntax) : SyntaxPattern → Type 0 where
  at_start : {p : SyntaxPattern} → pattern_of s [] ≡ Some p → Reached s p
  part : {p q : SyntaxPattern} → Reached s p → IsOpenPart p q → Reached s q
  reference : {n : List ℕ} {place : ℕ} {q : SyntaxPattern} → Reached s (ref n place) → pattern_of s n ≡ Some q → Reached s q
  content : {place : ℕ} {c : SyntaxClass} {p : SyntaxPattern} → Reached s (element place c p) → Reached s p
