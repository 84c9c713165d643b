use Rattle.std.proofs.Common.{◌≡◌, ◌++◌, drop}
use Rattle.tc_auto.specs.Steps.{carried}
use Rattle.tc_auto.proofs.nfa.push_all_moved.Given as goal

abbrev pub invariant-loop-step : goal.invariant-loop-step
invariant-loop-step l = l.steps.items ++ carried l.by l.starts (drop l.step-index l.step-items) ≡ l.initial.steps.items ++ carried l.by l.starts l.step-items
