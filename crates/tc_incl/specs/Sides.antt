-- What sets of states and of element patterns of one schema are worked out from.
use Rattle.std.specs.Prelude.{◌≡◌, ◌<◌, ◌≤◌, ◌↔◌, ◌⊎◌, ◌+◌, ℕ, List, Bool, true, false, Some, slice_get, All, length}
use Rattle.tc_model.specs.Names.{ExpandedName}
use Rattle.tc_model.specs.Grammars.{Grammar, ElementPattern, element_at, InClass}
use Rattle.tc_model.specs.States.{input, text_leaf, ref_leaf, automaton, first_state, IsEdge}
use Rattle.tc_model.specs.Symbols.{Mention, fresh_name}
use Rattle.tc_sets.specs.Numbers.{Numbers, Has}

-- all sets are of numbers below one
abbrev pub AreOfSize : ℕ → List Numbers → Type 0
AreOfSize n sets = All (λ s. s.size ≡ n) sets

-- a number is in the set at one of the first so many places, where its place is told to be one of these, from 1
abbrev pub IsAtSome : List Numbers → Numbers → ℕ → ℕ → Type 0
IsAtSome sets places n j = (k : ℕ) × (s : Numbers) × (k < n) × Has places (k + 1) × (slice_get sets k ≡ Some s) × Has s j

module _ (g : Grammar) where
  -- the class of an element pattern holds a name
  abbrev pub IsAllowed : ExpandedName → ℕ → Type 0
  IsAllowed n k = (e : ElementPattern) × (element_at g.elements k ≡ Some e) × InClass e.names n

  -- of each symbol, the element patterns that hold the name that stands for it
  abbrev pub AreAllowed : List Mention → List Numbers → Type 0
  AreAllowed symbols sets = (a : ℕ) (s : Numbers) → slice_get sets a ≡ Some s → (k : ℕ) → Has s k ↔ IsAllowed (fresh_name symbols a) k

  -- the first state of one of the first so many contents
  abbrev pub IsBegun : ℕ → ℕ → Type 0
  IsBegun n j = (k : ℕ) × (1 ≤ k) × (k ≤ n) × (j ≡ first_state g input k)

  -- one of the states is one in which a content accepts
  abbrev pub IsTaken : Numbers → ℕ → Type 0
  IsTaken states k = (e : ElementPattern) × (element_at g.elements k ≡ Some e) × ((y : ℕ) × Has states (first_state g input k + y) × (automaton e.content).accepting y)

  -- a text leads one of the states to a state
  abbrev pub IsAfterText : Numbers → ℕ → Type 0
  IsAfterText states j = (i : ℕ) × Has states i × IsEdge g input i text_leaf j

  -- and so does an element by an element pattern
  abbrev pub IsAfterPattern : Numbers → ℕ → ℕ → Type 0
  IsAfterPattern states k j = (i : ℕ) × Has states i × IsEdge g input i (ref_leaf k) j

  -- by each of the first ones, in order
  abbrev pub AreAfterPatterns : Numbers → List Numbers → Type 0
  AreAfterPatterns states ends = (k : ℕ) (s : Numbers) → slice_get ends k ≡ Some s → (j : ℕ) → Has s j ↔ IsAfterPattern states (k + 1) j

  -- by one of the first so many element patterns
  abbrev pub IsAfterElement : Numbers → Numbers → ℕ → ℕ → Type 0
  IsAfterElement states patterns n j = (k : ℕ) × (1 ≤ k) × (k ≤ n) × Has patterns k × ((i : ℕ) × Has states i × IsEdge g input i (ref_leaf k) j)

  -- a tree does
  abbrev pub IsAfter : Numbers → Bool → Numbers → ℕ → Type 0
  IsAfter states is_text patterns j = ((is_text ≡ true) × IsAfterText states j) ⊎ ((is_text ≡ false) × IsAfterElement states patterns (length g.elements) j)
