use Rattle.tc_rules.proofs.MoveTables.{step_there, step_later, step_never}
use Rattle.tc_rules.proofs.move_table.has_step.Goals as goal

pub returns-then-not-is_empty : goal.returns-then-not-is_empty
returns-then-not-is_empty c =
    step_there _ c.loop-steps.steps-index _ _ c.is_empty.result c.loop-steps.invariant c.loop-steps-test.true c.is_empty.ensures c.if-not-is_empty.true

pub loop-steps-preserved : goal.loop-steps-preserved
loop-steps-preserved c =
    step_later _ c.loop-steps.steps-index _ _ c.is_empty.result c.loop-steps.invariant c.loop-steps-test.true c.is_empty.ensures c.if-not-is_empty.false

pub returns : goal.returns
returns c = step_never _ c.loop-steps.steps-index _ c.loop-steps.invariant c.loop-steps-test.false
