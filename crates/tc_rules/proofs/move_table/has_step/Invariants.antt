use Rattle.std.proofs.Common.{◌≡◌, drop}
use Rattle.tc_model.specs.PathStates.{first_state}
use Rattle.tc_model.specs.StateCounts.{some_item}
use Rattle.tc_model.specs.Views as see
use Rattle.tc_rules.proofs.move_table.has_step.Given as goal

abbrev pub invariant-loop-steps : goal.invariant-loop-steps
invariant-loop-steps l = some_item (first_state (see.path l.path)) ≡ some_item (first_state (see.alternatives (drop l.steps-index l.steps-items)))
