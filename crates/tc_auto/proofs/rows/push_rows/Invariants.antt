use Rattle.std.proofs.Common.{◌≡◌, ◌++◌, List}
use Rattle.tc_auto.specs.Rows.{AreRowsOf}
use Rattle.tc_auto.specs.declared.rows.Row.{Row}
use Rattle.tc_auto.proofs.rows.push_rows.Given as goal

abbrev pub invariant-loop-state : goal.invariant-loop-state
invariant-loop-state l = (added : List Row) × (l.rows.items ≡ l.initial.rows.items ++ added) × AreRowsOf l.part l.base l.state added
