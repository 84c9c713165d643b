use Rattle.tc_run.specs.Running.{sheet_by}
use Rattle.tc_run.proofs.OnLeaves.{AreLeavesSo}
use Rattle.tc_run.proofs.leaves.Leaves.new.Given as goal

abbrev pub invariant-loop-rule : goal.invariant-loop-rule
invariant-loop-rule l = AreLeavesSo (sheet_by l.runner) l.rule-index l.bodies.items
