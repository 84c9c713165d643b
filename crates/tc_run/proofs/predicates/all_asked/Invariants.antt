use Rattle.tc_run.specs.Predicates.{AreAsked}
use Rattle.tc_run.proofs.predicates.all_asked.Given as goal

abbrev pub invariant-loop-number : goal.invariant-loop-number
invariant-loop-number l = AreAsked l.runner l.number l.asked.items
