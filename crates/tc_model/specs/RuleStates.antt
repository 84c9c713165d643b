-- The rule of a node by states: which rules fit it is told by its letter and by the state of all rules' patterns at the node above it.
-- It is told by a deterministic top-down automaton.
use Rattle.std.specs.Prelude.{◌≡◌, ◌≤◌, ◌⊎◌, ℕ, Bool, true, List, [], Option, None, Some, slice_get, get_or, int_lt}
use Rattle.tc_model.specs.Sheets.{Test, Rule}
use Rattle.tc_model.specs.Symbols.{Mention}
use Rattle.tc_model.specs.Letters.{Letter}
use Rattle.tc_model.specs.PathStates.{State, ends, steps_of}

-- a rule of this mode that fits, by its number
pub record IsFitting (rules : List Rule) (m : ℕ) (fits : ℕ → Rule → Bool) (i : ℕ) (r : Rule) : Type 0 where
  pub at : slice_get rules i ≡ Some r
  pub mode : r.mode ≡ m
  pub fits_here : fits i r ≡ true

-- of the rules of a mode that fit, the one with the greatest pair of priority and number, if there is one (XSLT 1.0, 5.5)
pub data IsRuleOf (rules : List Rule) (m : ℕ) (fits : ℕ → Rule → Bool) : Option ℕ → Type 0 where
  built_in : ((j : ℕ) (q : Rule) → IsFitting rules m fits j q → ⊥) → IsRuleOf rules m fits None
  best : {i : ℕ} {r : Rule} → IsFitting rules m fits i r
      → ((j : ℕ) (q : Rule) → IsFitting rules m fits j q → (int_lt q.priority r.priority ≡ true) ⊎ ((q.priority ≡ r.priority) × (j ≤ i))) → IsRuleOf rules m fits (Some i)

-- whether a rule's pattern fits a node of this letter below a state of all rules' patterns
abbrev pub fits_below : List Mention → List Test → State → Letter → ℕ → Rule → Bool
fits_below symbols predicates state l i r = ends symbols predicates (steps_of r.pattern) (get_or state i []) l
