use Rattle.std.proofs.Common.{◌≡◌}
use Rattle.tc_mat.specs.Matrix.{IsMatrix}
use Rattle.tc_beh.proofs.InOrder.{HasFirst}
use Rattle.tc_beh.proofs.lists.put_pairs.Given as goal

abbrev pub invariant-loop-place : goal.invariant-loop-place
invariant-loop-place l = record {
  size : l.set.size ≡ l.fn.set.size;
  matrix : IsMatrix l.set;
  pairs : HasFirst l.set l.pairs l.place;
}
