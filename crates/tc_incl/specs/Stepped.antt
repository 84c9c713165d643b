-- Where the rows of lists of trees lead, of two schemas.
use Rattle.std.specs.Prelude.{◌≡◌, ℕ, List, Some, slice_get}
use Rattle.tc_incl.specs.declared.rows.Row.{Row}
use Rattle.tc_incl.specs.declared.both.Both.{Both}
use Rattle.tc_incl.specs.declared.steps.BothSteps.{BothSteps}
use Rattle.tc_incl.specs.Steps.{AreSteps}

module _ (s : Both) where
  -- those of the states of a row, of each schema
  pub record AreBothSteps (h : Row) (steps : BothSteps) : Type 0 where
    pub first : AreSteps s.first.auto.now h.first steps.first
    pub second : AreSteps s.second.auto.now h.second steps.second

  -- those of the first rows, in order
  abbrev pub AreStepped : List Row → List BothSteps → Type 0
  AreStepped hedges steps = (i : ℕ) (t : BothSteps) → slice_get steps i ≡ Some t → (h : Row) × (slice_get hedges i ≡ Some h) × AreBothSteps h t
