use Rattle.std.proofs.Common.{◌<◌, ◌≤◌, ℕ}
use Rattle.tc_settle.specs.Settled.{HedgesTried, IsAppendDone}
use Rattle.tc_settle.proofs.runs.append_trees.Given as goal

abbrev pub invariant-loop-tree : goal.invariant-loop-tree
invariant-loop-tree g l =
    HedgesTried l.most l.cost (g.R.NumberedRows.held l.fn.rows) l.fn.closed (g.R.NumberedRows.held l.rows) l.closed
    ((t : ℕ) → l.from ≤ t → t < l.tree → IsAppendDone (g.R.NumberedRows.held l.rows) l.closed l.hedge t)
