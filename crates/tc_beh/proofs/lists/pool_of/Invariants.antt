use Rattle.std.proofs.Common.{◌≡◌}
use Rattle.tc_beh.proofs.InOrder.{HoldsFirst}
use Rattle.tc_beh.proofs.lists.pool_of.Given as goal

abbrev pub invariant-loop-number : goal.invariant-loop-number
invariant-loop-number l = record {
  size : l.outputs.size ≡ l.size;
  set : l.set.size ≡ l.size;
  held : HoldsFirst l.outputs l.lists l.number;
}
