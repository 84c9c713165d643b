use Rattle.std.proofs.Common.{◌++◌, refl}
use Rattle.tc_model.specs.PathStates.{first_items}
use Rattle.tc_model.specs.Views as see
use Rattle.tc_rules.specs.Words.{bits_of}
use Rattle.tc_rules.proofs.RowLoops.{first_goes, over_first}
use Rattle.tc_rules.proofs.RowSteps.{ended}
use Rattle.tc_rules.proofs.rows.write_first.Goals as goal

pub push-requires : goal.push-requires
push-requires c = c.loop-step.invariant.0

pub loop-step-init : goal.loop-step-init
loop-step-init c = (c.requires, refl)

pub loop-step-preserved : goal.loop-step-preserved
loop-step-preserved c = (
  c.in_ok-push.ensures.made,
  first_goes c.loop-step.first (bits_of c.args.written.now ++ first_items (see.steps c.args.steps.now)) (bits_of c.loop-step.written) (bits_of c.push.new.self) c.args.steps.now c.loop-step._step-index c.loop-step-test.true c.in_ok-push.ensures.bits c.loop-step.invariant.1,
)

pub returns-clause-made : goal.returns-clause-made
returns-clause-made c = c.loop-step.invariant.0

pub returns-clause-bits : goal.returns-clause-bits
returns-clause-bits c = ended (bits_of c.args.written.now ++ first_items (see.steps c.args.steps.now)) (bits_of c.loop-step.written) _ (over_first c.loop-step.first c.args.steps.now c.loop-step._step-index c.loop-step-test.false) c.loop-step.invariant.1
