-- The first states of moves to all children.
use Rattle.std.specs.Prelude.{◌≡◌, ℕ, Some, slice_get}
use Rattle.tc_model.specs.Meaning.{all_children}
use Rattle.tc_model.specs.PathStates.{first_state}
use Rattle.tc_model.specs.Sheets.{Path}
use Rattle.tc_rules.specs.RulesView.{IsStateOf}
use Rattle.tc_rules.specs.Views.{mode_of}
use Rattle.tc_rules.specs.declared.walk.Job.{Job}
use Rattle.tc_rules.specs.declared.walk.Job.TheVariants.{Mode}
use Rattle.tc_run.specs.Running.{told_by, sheet_by}
use Rattle.tc_run.specs.declared.children.ChildMoves.{ChildMoves}
use Rattle.tc_run.specs.declared.runner.Runner.{Runner}

-- the number of the first state of a move
abbrev pub IsFirst : Runner → Path → Job → ℕ → Type 0
IsFirst r p job k = IsStateOf (told_by r) k (record { path = p; mode = Some (mode_of (sheet_by r).modes job) }) (first_state p)

-- what is kept of a mode is right
pub record AreFirst (r : Runner) (moves : ChildMoves) : Type 0 where
  pub first : (m k : ℕ) → slice_get moves.states.items m ≡ Some (Some k) → IsFirst r all_children (Mode m) k
