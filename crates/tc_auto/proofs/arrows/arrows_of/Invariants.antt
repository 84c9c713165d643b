use Rattle.std.proofs.Common.{take}
use Rattle.tc_auto.specs.Arrows.{AreArrowsOf}
use Rattle.tc_auto.proofs.arrows.arrows_of.Given as goal

abbrev pub invariant-loop-state : goal.invariant-loop-state
invariant-loop-state l = AreArrowsOf (take l.state l.rows) l.leaf l.arrows.items
