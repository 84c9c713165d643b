-- To which states of a schema's contents children lead, as sets.
use Rattle.std.specs.Prelude.{◌≡◌, ◌≤◌, ◌↔◌, ◌+◌, ℕ, Some, IsTrue}
use Rattle.tc_model.specs.Names.{ExpandedName}
use Rattle.tc_model.specs.Trees.{Trees, normal_form}
use Rattle.tc_model.specs.Grammars.{Grammar, ElementPattern, element_at, InClass}
use Rattle.tc_model.specs.States.{input, text_leaf, ref_leaf, automaton, first_state, is_alternative, IsEdge, IsElementOf, Leads}
use Rattle.tc_sets.specs.Numbers.{Numbers, Has}

module _ (x : Grammar) where
  -- the class of an element pattern holds a name
  abbrev pub IsAllowed : ExpandedName → ℕ → Type 0
  IsAllowed n k = (e : ElementPattern) × (element_at x.elements k ≡ Some e) × InClass e.names n

  -- exactly the element patterns whose classes hold a name
  abbrev pub AreAllowed : ExpandedName → Numbers → Type 0
  AreAllowed n numbers = (k : ℕ) → Has numbers k ↔ IsAllowed n k

  -- exactly the states to which children lead the first states of the contents that a name allows
  abbrev pub AreLed : ExpandedName → Trees → Numbers → Type 0
  AreLed n kids states = (j : ℕ) → Has states j ↔ ((k : ℕ) × (e : ElementPattern) × (element_at x.elements k ≡ Some e) × InClass e.names n × Leads x input (first_state x input k) kids j)

  -- one of the states is one in which the content of an element pattern accepts
  abbrev pub IsReached : Numbers → ℕ → Type 0
  IsReached states k = (e : ElementPattern) × (element_at x.elements k ≡ Some e) × ((y : ℕ) × Has states (first_state x input k + y) × (automaton e.content).accepting y)

  -- an element pattern is one of these, and its content accepts in one of the states
  abbrev pub IsTaken : Numbers → Numbers → ℕ → Type 0
  IsTaken numbers states k = Has numbers k × IsReached states k

  -- a text leads one of the states to a state
  abbrev pub IsAfterText : Numbers → ℕ → Type 0
  IsAfterText states j = (i : ℕ) × Has states i × IsEdge x input i text_leaf j

  -- an element leads one of the states to a state, by one of the first so many element patterns, of which some take it
  abbrev pub IsAfterElement : Numbers → (ℕ → Type 0) → ℕ → ℕ → Type 0
  IsAfterElement states Taken most j = (k : ℕ) × (1 ≤ k) × (k ≤ most) × Taken k × ((i : ℕ) × Has states i × IsEdge x input i (ref_leaf k) j)

  -- the first state of one of the first so many contents, of those that are in a set
  abbrev pub IsBegun : Numbers → ℕ → ℕ → Type 0
  IsBegun numbers most j = (k : ℕ) × (1 ≤ k) × (k ≤ most) × Has numbers k × (j ≡ first_state x input k)

  -- an element of this name and with these children matches an alternative of the start
  abbrev pub IsStarted : ExpandedName → Trees → Type 0
  IsStarted n kids = (k : ℕ) × IsTrue (is_alternative k x.start) × IsElementOf x.elements k n (normal_form kids)
