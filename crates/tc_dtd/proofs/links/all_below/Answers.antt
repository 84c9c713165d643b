use Rattle.tc_dtd.proofs.BuiltLaws.{below_more}
use Rattle.tc_dtd.proofs.links.all_below.Goals as goal

pub loop-number-preserved : goal.loop-number-preserved
loop-number-preserved c = below_more c.loop-number.number c.loop-number.out.items c.push.new.self.items c.loop-number.invariant c.in_ok-push.ensures.items
