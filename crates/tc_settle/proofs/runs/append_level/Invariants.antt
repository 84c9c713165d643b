use Rattle.tc_settle.specs.Settled.{AreSumsDone, HedgesTried}
use Rattle.tc_settle.proofs.runs.append_level.Given as goal

abbrev pub invariant-loop-hedge : goal.invariant-loop-hedge
invariant-loop-hedge g l =
    HedgesTried l.most l.cost (g.R.NumberedRows.held l.fn.rows) l.fn.closed (g.R.NumberedRows.held l.rows) l.closed
    (AreSumsDone (g.R.NumberedRows.held l.rows) l.closed l.hedge l.cost)
