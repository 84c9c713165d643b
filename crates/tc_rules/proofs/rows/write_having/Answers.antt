use Rattle.std.proofs.Common.{◌++◌, refl}
use Rattle.tc_model.specs.Views as see
use Rattle.tc_rules.specs.Steps.{steps_having}
use Rattle.tc_rules.specs.Words.{bits_of}
use Rattle.tc_rules.proofs.RowLoops.{goes_on_told, having_goes, over_having}
use Rattle.tc_rules.proofs.RowSteps.{ended}
use Rattle.tc_rules.proofs.rows.write_having.Goals as goal

pub push-requires : goal.push-requires
push-requires c = c.loop-k.invariant.0

pub loop-k-init : goal.loop-k-init
loop-k-init c = (c.requires, refl)

pub loop-k-preserved : goal.loop-k-preserved
loop-k-preserved c = (
  c.in_ok-push.ensures.made,
  having_goes c.args.numbered.now c.args.sought.now (bits_of c.args.written.now ++ steps_having c.args.numbered.now (see.steps c.args.steps.now) c.args.sought.now) (bits_of c.loop-k.written) (bits_of c.push.new.self) c.step_has-has.result _ c.args.steps.now c.loop-k.k _
      c.loop-k-test.true (goes_on_told c.args.steps.now c.loop-k.k) c.step_has-has.ensures c.in_ok-push.ensures.bits c.loop-k.invariant.1,
)

pub returns-clause-made : goal.returns-clause-made
returns-clause-made c = c.loop-k.invariant.0

pub returns-clause-bits : goal.returns-clause-bits
returns-clause-bits c =
    ended (bits_of c.args.written.now ++ steps_having c.args.numbered.now (see.steps c.args.steps.now) c.args.sought.now) (bits_of c.loop-k.written) _ (over_having c.args.numbered.now c.args.sought.now c.args.steps.now c.loop-k.k c.loop-k-test.false) c.loop-k.invariant.1
