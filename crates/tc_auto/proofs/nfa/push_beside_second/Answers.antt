use Rattle.tc_auto.proofs.Loops.{pair_inside, second_more}
use Rattle.tc_auto.proofs.nfa.push_beside_second.Goals as goal

pub pair-requires : goal.pair-requires
pair-requires c = pair_inside c.args.step.from c.loop-y.y c.args.first_count c.args.count _ c.requires.within.0 c.loop-y-test.true c.requires.room

pub pair-requires-in-loop-y : goal.pair-requires-in-loop-y
pair-requires-in-loop-y c = pair_inside c.args.step.to c.loop-y.y c.args.first_count c.args.count _ c.requires.within.1 c.loop-y-test.true c.requires.room

pub loop-y-preserved : goal.loop-y-preserved
loop-y-preserved c = second_more c.args.step c.args.count c.loop-y.y c.pair.result c.pair-in-loop-y.result _ c.loop-y.steps.items c.push.new.self.items c.pair.ensures c.pair-in-loop-y.ensures c.loop-y.invariant c.in_ok-push.ensures.items
