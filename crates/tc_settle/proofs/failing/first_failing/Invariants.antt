use Rattle.std.proofs.Common.{◌<◌, ℕ}
use Rattle.tc_settle.specs.Held.{SameRows}
use Rattle.tc_settle.proofs.failing.first_failing.Given as goal

abbrev pub invariant-loop-tree : goal.invariant-loop-tree
invariant-loop-tree g l = record {
  same : SameRows (g.R.NumberedRows.held l.fn.rows) (g.R.NumberedRows.held l.rows);
  pass : (t : ℕ) → t < l.tree → (g.R.NumberedRows.held l.fn.rows).passes t;
}
