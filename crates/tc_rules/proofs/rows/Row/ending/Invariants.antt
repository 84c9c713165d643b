use Rattle.std.proofs.Common.{◌≡◌, ◌++◌, drop}
use Rattle.tc_rules.specs.Steps as v
use Rattle.tc_rules.specs.Rows.{state}
use Rattle.tc_rules.proofs.rows.Row.ending.Given as goal

abbrev pub invariant-loop-i : goal.invariant-loop-i
invariant-loop-i l = v.ending_alternatives 0 (state l.ends l.self) ≡ l.ending.items ++ v.ending_alternatives l.i (drop l.i (state l.ends l.self))
