use Rattle.std.proofs.Common.{◌≡◌}
use Rattle.tc_beh.proofs.InOrder.{rows_pairs}
use Rattle.tc_beh.proofs.lists.pairs_of.Given as goal

abbrev pub invariant-loop-from : goal.invariant-loop-from
invariant-loop-from l = l.pairs ≡ rows_pairs l.set l.from
