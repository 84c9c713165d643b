use Rattle.std.proofs.Common.{◌≡◌, ◌<◌, ℕ, ◌↔◌}
use Rattle.tc_mat.specs.Matrix.{IsMatrix, HasPair}
use Rattle.tc_beh.proofs.sets.put_identity.Given as goal

abbrev pub invariant-loop-i : goal.invariant-loop-i
invariant-loop-i l = (l.out.size ≡ l.fn.out.size) × (l.count ≡ l.fn.out.size) × IsMatrix l.out × ((x y : ℕ) → HasPair l.out x y ↔ ((x < l.i) × (x ≡ y)))
