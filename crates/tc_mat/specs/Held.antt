-- What a pool holds: matrices of one size, each once, in the order in which they came.
use Rattle.std.specs.Prelude.{◌≡◌, ℕ, List, All, Some, slice_get}
use Rattle.tc_mat.specs.Matrix.{Matrix, IsMatrix, HaveSamePairs}

pub record Held : Type 0 where
  pub size : ℕ
  pub matrices : List Matrix

-- a matrix is held, at some place
abbrev pub IsHeld : Held → Matrix → Type 0
IsHeld p m = (i : ℕ) × (slice_get p.matrices i ≡ Some m)

-- no two places hold one set of pairs
abbrev pub AreDifferent : Held → Type 0
AreDifferent p =
    (i j : ℕ) (a b : Matrix) → slice_get p.matrices i ≡ Some a → slice_get p.matrices j ≡ Some b → HaveSamePairs a b → i ≡ j

-- each is a matrix of the pool's size
abbrev pub AreMatrices : Held → Type 0
AreMatrices p = All (λ m. (m.size ≡ p.size) × IsMatrix m) p.matrices
