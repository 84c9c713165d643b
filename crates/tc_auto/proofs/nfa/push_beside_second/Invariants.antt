use Rattle.std.proofs.Common.{◌≡◌, ◌++◌}
use Rattle.tc_auto.specs.Steps.{beside_second}
use Rattle.tc_auto.proofs.nfa.push_beside_second.Given as goal

abbrev pub invariant-loop-y : goal.invariant-loop-y
invariant-loop-y l = l.steps.items ≡ l.initial.steps.items ++ beside_second l.step l.count l.y
