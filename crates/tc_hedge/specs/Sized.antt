-- What stays of a set of pairs into which others are put.
use Rattle.std.specs.Prelude.{◌≡◌}
use Rattle.tc_mat.specs.Matrix.{IsMatrix, Matrix}

-- its size stays, and it is a set of pairs
pub record KeepsSize (old new : Matrix) : Type 0 where
  pub size : new.size ≡ old.size
  pub matrix : IsMatrix new
