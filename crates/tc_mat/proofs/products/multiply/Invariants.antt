use Rattle.tc_mat.specs.Product.{HasBits}
use Rattle.tc_mat.proofs.Rows.{LedBefore}
use Rattle.tc_mat.proofs.products.multiply.Given as goal

abbrev pub invariant-loop-at : goal.invariant-loop-at
invariant-loop-at l = HasBits l.n l.out (LedBefore l.n l.a l.b l.at)
