use Rattle.std.proofs.Common.{ℕ, ◌<◌}
use Rattle.tc_mat.specs.Product.{IsUnit}
use Rattle.tc_mat.proofs.products.is_identity.Given as goal

abbrev pub invariant-loop-row : goal.invariant-loop-row
invariant-loop-row l = (row : ℕ) → row < l.row → IsUnit l.n l.a row
