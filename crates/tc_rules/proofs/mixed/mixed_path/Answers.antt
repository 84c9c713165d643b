use Rattle.tc_rules.specs.Views.{predicates}
use Rattle.tc_rules.proofs.MixedMoves.{alternative_in, alternatives_over}
use Rattle.tc_rules.proofs.mixed.mixed_path.Goals as goal

pub loop-steps-preserved : goal.loop-steps-preserved
loop-steps-preserved c =
    alternative_in (predicates c.args.numbered.now) c.args.path.now c.loop-steps.steps-index _ c.loop-steps.hash c.mixed.result c.mixed_steps-hash.result _ c.loop-steps-test.true c.mixed.ensures c.mixed_steps-hash.ensures c.loop-steps.invariant

pub returns : goal.returns
returns c = alternatives_over (predicates c.args.numbered.now) c.args.path.now c.loop-steps.steps-index c.loop-steps.hash _ c.loop-steps-test.false c.loop-steps.invariant
