use Rattle.tc_settle.specs.Settled.{IsFar}
use Rattle.tc_settle.proofs.levels.all_far.Given as goal

abbrev pub invariant-loop-hedge : goal.invariant-loop-hedge
invariant-loop-hedge g l = IsFar l.most (g.R.NumberedRows.held l.rows) l.closed l.starts l.hedge
