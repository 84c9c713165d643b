use Rattle.std.proofs.Common.{◌≡◌, ◌++◌, drop}
use Rattle.tc_auto.specs.Steps.{all_beside_second}
use Rattle.tc_auto.proofs.nfa.push_all_beside_second.Given as goal

abbrev pub invariant-loop-step : goal.invariant-loop-step
invariant-loop-step l = l.steps.items ++ all_beside_second (drop l.step-index l.step-items) l.count ≡ l.initial.steps.items ++ all_beside_second l.step-items l.count
