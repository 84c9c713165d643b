use Rattle.tc_run.proofs.FirstOfChildren.{AreFirstSo}
use Rattle.tc_run.proofs.children.ChildMoves.new.Given as goal

abbrev pub invariant-loop-mode : goal.invariant-loop-mode
invariant-loop-mode l = AreFirstSo l.runner l.mode l.states.items
