use Rattle.std.proofs.Common.{◌≡◌, ◌≤◌, ◌++◌, ◌-◌, codes}
use Rattle.tc_top.specs.Demo.{demo_lines}
use Rattle.tc_top.proofs.demo.schema_of.Given as goal

abbrev pub invariant-loop-number : goal.invariant-loop-number
invariant-loop-number l = (l.text.items ≡ codes "start = e1\n" ++ demo_lines l.size l.number) × (l.number ≤ l.size)

abbrev pub decreases-loop-number : goal.decreases-loop-number
decreases-loop-number l = l.size - l.number
