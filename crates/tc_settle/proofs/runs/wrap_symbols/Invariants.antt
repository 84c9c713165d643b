use Rattle.std.proofs.Common.{◌<◌, ℕ}
use Rattle.tc_settle.specs.Settled.{IsWrapDone, TreesTried}
use Rattle.tc_settle.proofs.runs.wrap_symbols.Given as goal

abbrev pub invariant-loop-symbol : goal.invariant-loop-symbol
invariant-loop-symbol g l =
    TreesTried l.most l.cost (g.R.NumberedRows.held l.fn.rows) l.fn.closed (g.R.NumberedRows.held l.rows) l.closed
    ((a : ℕ) → a < l.symbol → IsWrapDone (g.R.NumberedRows.held l.rows) l.closed a l.hedge)
