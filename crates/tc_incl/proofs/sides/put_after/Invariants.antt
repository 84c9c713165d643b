use Rattle.std.proofs.Common.{◌≡◌}
use Rattle.tc_incl.proofs.Stepped.{IsPutTo}
use Rattle.tc_incl.proofs.sides.put_after.Given as goal

abbrev pub invariant-loop-before : goal.invariant-loop-before
invariant-loop-before l = (l.next.size ≡ l.initial.next.size) × IsPutTo l.ends l.patterns l.initial.next l.before l.next
