use Rattle.tc_model.specs.Views as see
use Rattle.tc_rules.specs.Steps.{path_having}
use Rattle.tc_rules.specs.Words.{bits_of}
use Rattle.tc_rules.proofs.RowLoops.{over_path, path_goes, path_long}
use Rattle.tc_rules.proofs.RowSteps.{begun, ended}
use Rattle.tc_rules.proofs.Writing.{flat, row_is}
use Rattle.tc_rules.proofs.rows.row_having.Goals as goal

pub loop-steps-init : goal.loop-steps-init
loop-steps-init c = (c.new-written.ensures.made, begun (flat (path_having c.args.numbered.now (see.alternatives c.args.path.now) c.args.sought.now)) (bits_of c.new-written.result) c.new-written.ensures.bits)

pub write_having-requires : goal.write_having-requires
write_having-requires c = c.loop-steps.invariant.0

pub loop-steps-preserved : goal.loop-steps-preserved
loop-steps-preserved c = (
  c.in_ok-write_having.ensures.made,
  path_goes c.args.numbered.now c.args.sought.now (flat (path_having c.args.numbered.now (see.alternatives c.args.path.now) c.args.sought.now)) (bits_of c.loop-steps.written) (bits_of c.write_having.new.written) c.args.path.now c.loop-steps.steps-index _ c.loop-steps-test.true c.in_ok-write_having.ensures.bits c.loop-steps.invariant.1,
)

pub returns : goal.returns
returns c =
    row_is (see.alternatives c.args.path.now) (path_having c.args.numbered.now (see.alternatives c.args.path.now) c.args.sought.now) c.loop-steps.written.len c.loop-steps.written.words.items (path_long c.args.numbered.now c.args.sought.now (see.alternatives c.args.path.now)) c.loop-steps.invariant.0
    (ended (flat (path_having c.args.numbered.now (see.alternatives c.args.path.now) c.args.sought.now)) (bits_of c.loop-steps.written) _ (over_path c.args.numbered.now c.args.sought.now c.args.path.now c.loop-steps.steps-index c.loop-steps-test.false) c.loop-steps.invariant.1)
