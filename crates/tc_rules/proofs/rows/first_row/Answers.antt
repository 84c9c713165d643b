use Rattle.tc_model.specs.Views as see
use Rattle.tc_model.specs.PathStates.{first_state}
use Rattle.tc_rules.specs.Words.{bits_of}
use Rattle.tc_rules.proofs.RowLoops.{first_path_goes, first_path_long, over_first_path}
use Rattle.tc_rules.proofs.RowSteps.{begun, ended}
use Rattle.tc_rules.proofs.Writing.{flat, row_is}
use Rattle.tc_rules.proofs.rows.first_row.Goals as goal

pub loop-steps-init : goal.loop-steps-init
loop-steps-init c = (c.new-written.ensures.made, begun (flat (first_state (see.alternatives c.args.path.now))) (bits_of c.new-written.result) c.new-written.ensures.bits)

pub write_first-requires : goal.write_first-requires
write_first-requires c = c.loop-steps.invariant.0

pub loop-steps-preserved : goal.loop-steps-preserved
loop-steps-preserved c = (
  c.in_ok-write_first.ensures.made,
  first_path_goes (flat (first_state (see.alternatives c.args.path.now))) (bits_of c.loop-steps.written) (bits_of c.write_first.new.written) c.args.path.now c.loop-steps.steps-index _ c.loop-steps-test.true c.in_ok-write_first.ensures.bits c.loop-steps.invariant.1,
)

pub returns : goal.returns
returns c =
    row_is (see.alternatives c.args.path.now) (first_state (see.alternatives c.args.path.now)) c.loop-steps.written.len c.loop-steps.written.words.items (first_path_long (see.alternatives c.args.path.now)) c.loop-steps.invariant.0
    (ended (flat (first_state (see.alternatives c.args.path.now))) (bits_of c.loop-steps.written) _ (over_first_path c.args.path.now c.loop-steps.steps-index c.loop-steps-test.false) c.loop-steps.invariant.1)
