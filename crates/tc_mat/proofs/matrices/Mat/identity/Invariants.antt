use Rattle.std.proofs.Common.{◌≡◌, ◌<◌, ℕ}
use Rattle.std.specs.Prelude.{◌↔◌}
use Rattle.tc_mat.specs.Matrix.{HasPair, IsMatrix}
use Rattle.tc_mat.proofs.matrices.Mat.identity.Given as goal

abbrev pub invariant-loop-i : goal.invariant-loop-i
invariant-loop-i l =
    (l.mat.size ≡ l.n) × ((x y : ℕ) → HasPair l.mat x y ↔ ((x < l.i) × (x ≡ y))) × IsMatrix l.mat
