use Rattle.std.proofs.Common.{◌≡◌, ◌≤◌, ℕ}
use Rattle.std.specs.Int.{bit_at}
use Rattle.tc_mat.specs.Product.{GainsBits}
use Rattle.tc_mat.proofs.Rows.{ToldBut}
use Rattle.tc_mat.proofs.products.add_rows.Given as goal

abbrev pub invariant-loop-rest : goal.invariant-loop-rest
invariant-loop-rest l =
    ((t : ℕ) → bit_at l.rest t ≡ 1 → bit_at l.told t ≡ 1) × GainsBits l.n l.initial.out l.out (ToldBut l.n l.b l.initial.out l.row l.by l.told l.rest) × (l.rest ≤ l.told)

abbrev pub decreases-loop-rest : goal.decreases-loop-rest
decreases-loop-rest l = l.rest
