use Rattle.std.proofs.Common.{◌≡◌, ◌++◌, drop}
use Rattle.tc_auto.specs.Steps.{all_beside_first}
use Rattle.tc_auto.proofs.nfa.push_all_beside_first.Given as goal

abbrev pub invariant-loop-step : goal.invariant-loop-step
invariant-loop-step l = l.steps.items ++ all_beside_first (drop l.step-index l.step-items) l.second.count l.first_count ≡ l.initial.steps.items ++ all_beside_first l.step-items l.second.count l.first_count
