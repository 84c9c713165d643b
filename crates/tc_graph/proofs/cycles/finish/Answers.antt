use Rattle.tc_graph.proofs.Walks.{finish_more}
use Rattle.tc_graph.proofs.cycles.finish.Goals as goal

pub loop-number-preserved : goal.loop-number-preserved
loop-number-preserved c =
    finish_more c.args.row.now c.loop-number.number-index c.args.component c.args.states.now.items c.loop-number.states.items c.loop-number-test.true c.requires c.loop-number.invariant
