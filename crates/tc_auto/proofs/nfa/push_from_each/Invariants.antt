use Rattle.std.proofs.Common.{◌≡◌, ◌++◌, drop}
use Rattle.tc_auto.specs.Steps.{from_each}
use Rattle.tc_auto.proofs.nfa.push_from_each.Given as goal

abbrev pub invariant-loop-start : goal.invariant-loop-start
invariant-loop-start l = l.steps.items ++ from_each (drop l.start-index l.starts) l.leaf l.to ≡ l.initial.steps.items ++ from_each l.starts l.leaf l.to
