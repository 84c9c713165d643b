use Rattle.std.proofs.Common.{◌≡◌, ◌++◌}
use Rattle.tc_auto.specs.Steps.{beside_first}
use Rattle.tc_auto.proofs.nfa.push_beside_first.Given as goal

abbrev pub invariant-loop-x : goal.invariant-loop-x
invariant-loop-x l = l.steps.items ≡ l.initial.steps.items ++ beside_first l.step l.count l.x
