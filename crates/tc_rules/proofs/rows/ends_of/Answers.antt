use Rattle.tc_model.specs.Views as see
use Rattle.tc_rules.specs.Words.{ends_of}
use Rattle.tc_rules.proofs.RowLoops.{ends_goes, over_ends}
use Rattle.tc_rules.proofs.RowSteps.{begun, ended}
use Rattle.tc_rules.proofs.rows.ends_of.Goals as goal

pub loop-steps-init : goal.loop-steps-init
loop-steps-init c = begun (ends_of 0 (see.alternatives c.args.path.now)) c.in_ok-ends.ends.items c.in_ok-ends.ensures.items

pub loop-steps-preserved : goal.loop-steps-preserved
loop-steps-preserved c =
    ends_goes (ends_of 0 (see.alternatives c.args.path.now)) c.loop-steps.ends.items c.push.new.self.items c.loop-steps.end c.in-Some.next c.args.path.now c.loop-steps.steps-index _ c.loop-steps-test.true c.in-Some.ensures.1 c.in_ok-push.ensures.items c.loop-steps.invariant

pub returns : goal.returns
returns c = ended (ends_of 0 (see.alternatives c.args.path.now)) c.loop-steps.ends.items _ (over_ends c.loop-steps.end c.args.path.now c.loop-steps.steps-index c.loop-steps-test.false) c.loop-steps.invariant
