use Rattle.std.proofs.Common.{◌≡◌, ◌++◌, drop}
use Rattle.tc_auto.specs.Steps.{later}
use Rattle.tc_auto.proofs.nfa.push_later.Given as goal

abbrev pub invariant-loop-end : goal.invariant-loop-end
invariant-loop-end l = l.ends.items ++ later l.by (drop l.end-index l.end-items) ≡ l.initial.ends.items ++ later l.by l.end-items
