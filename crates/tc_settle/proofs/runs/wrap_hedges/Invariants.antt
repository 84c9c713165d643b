use Rattle.std.proofs.Common.{◌<◌, ◌≤◌, ℕ}
use Rattle.tc_settle.specs.Settled.{AreWrapsDone, TreesTried}
use Rattle.tc_settle.proofs.runs.wrap_hedges.Given as goal

abbrev pub invariant-loop-hedge : goal.invariant-loop-hedge
invariant-loop-hedge g l =
    TreesTried l.most l.cost (g.R.NumberedRows.held l.fn.rows) l.fn.closed (g.R.NumberedRows.held l.rows) l.closed
    ((h : ℕ) → l.from ≤ h → h < l.hedge → AreWrapsDone (g.R.NumberedRows.held l.rows) l.closed h)
