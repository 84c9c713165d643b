use Rattle.tc_cert.proofs.Applied.{AppliesSoFar}
use Rattle.tc_cert.proofs.rows.apply.Given as goal

abbrev pub invariant-loop-change : goal.invariant-loop-change
invariant-loop-change l = AppliesSoFar l.initial.numbers.items l.numbers.items l.changes l.change-index l.next
