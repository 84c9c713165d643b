use Rattle.tc_settle.specs.Settled.{IsReady}
use Rattle.tc_settle.proofs.settling.settle.Given as goal

abbrev pub invariant-loop-cost : goal.invariant-loop-cost
invariant-loop-cost g l = IsReady l.most l.cost (g.R.NumberedRows.held l.rows) l.closed l.starts.items l.wrapped
