use Rattle.tc_auto.proofs.Loops.{first_more, pair_inside}
use Rattle.tc_auto.proofs.nfa.push_beside_first.Goals as goal

pub pair-requires : goal.pair-requires
pair-requires c = pair_inside c.loop-x.x c.args.step.from c.args.first_count c.args.count _ c.loop-x-test.true c.requires.within.0 c.requires.room

pub pair-requires-in-loop-x : goal.pair-requires-in-loop-x
pair-requires-in-loop-x c = pair_inside c.loop-x.x c.args.step.to c.args.first_count c.args.count _ c.loop-x-test.true c.requires.within.1 c.requires.room

pub loop-x-preserved : goal.loop-x-preserved
loop-x-preserved c = first_more c.args.step c.args.count c.loop-x.x c.pair.result c.pair-in-loop-x.result _ c.loop-x.steps.items c.push.new.self.items c.pair.ensures c.pair-in-loop-x.ensures c.loop-x.invariant c.in_ok-push.ensures.items
