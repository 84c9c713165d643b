use Rattle.tc_settle.specs.Settled.{AreRangesDone, HedgesTried}
use Rattle.tc_settle.proofs.levels.append_before.Given as goal

abbrev pub invariant-loop-earlier : goal.invariant-loop-earlier
invariant-loop-earlier g l =
    HedgesTried l.most 2001 (g.R.NumberedRows.held l.fn.rows) l.fn.closed (g.R.NumberedRows.held l.rows) l.closed
    (AreRangesDone (g.R.NumberedRows.held l.rows) l.closed l.earlier l.from l.to)
