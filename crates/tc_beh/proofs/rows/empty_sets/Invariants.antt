use Rattle.std.proofs.Common.{◌≡◌, length, All}
use Rattle.tc_mat.specs.Matrix.{Matrix}
use Rattle.tc_beh.proofs.rows.empty_sets.Given as goal

abbrev pub invariant-loop : goal.invariant-loop
invariant-loop l = (length l.sets.items ≡ l.counter) × All (λ (m : Matrix). m.size ≡ l.size) l.sets.items
