use Rattle.std.proofs.Common.{◌≡◌, ◌++◌, drop}
use Rattle.tc_auto.specs.Steps.{all_pairs}
use Rattle.tc_auto.proofs.nfa.pairs_of_ends.Given as goal

abbrev pub invariant-loop-x : goal.invariant-loop-x
invariant-loop-x l = l.ends.items ++ all_pairs l.second.count (drop l.x-index l.x-items) l.second.accepting.items ≡ all_pairs l.second.count l.x-items l.second.accepting.items
