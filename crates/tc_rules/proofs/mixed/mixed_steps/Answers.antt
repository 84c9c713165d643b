use Rattle.tc_rules.specs.Views.{predicates}
use Rattle.tc_rules.proofs.MixedMoves.{step_in, steps_over}
use Rattle.tc_rules.proofs.mixed.mixed_steps.Goals as goal

pub loop-step-preserved : goal.loop-step-preserved
loop-step-preserved c = step_in (predicates c.args.numbered.now) c.args.steps.now c.loop-step.step-index _ c.loop-step.hash c.mixed_step-hash.result _ c.loop-step-test.true c.mixed_step-hash.ensures c.loop-step.invariant

pub returns : goal.returns
returns c = steps_over (predicates c.args.numbered.now) c.args.steps.now c.loop-step.step-index c.loop-step.hash _ c.loop-step-test.false c.loop-step.invariant
