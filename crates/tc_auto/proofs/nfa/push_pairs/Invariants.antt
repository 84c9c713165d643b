use Rattle.std.proofs.Common.{◌≡◌, ◌++◌, drop}
use Rattle.tc_auto.specs.Steps.{pairs}
use Rattle.tc_auto.proofs.nfa.push_pairs.Given as goal

abbrev pub invariant-loop-y : goal.invariant-loop-y
invariant-loop-y l = l.ends.items ++ pairs l.others.count l.x (drop l.y-index l.y-items) ≡ l.initial.ends.items ++ pairs l.others.count l.x l.y-items
