-- What a product takes: the words of rows, by their counts.
use Rattle.std.specs.Prelude.{◌≡◌, ◌<◌, ◌*◌, ℕ, List, length}
use Rattle.tc_mat.specs.Matrix.{words_a_row}
use Rattle.tc_mat.specs.Product.{IsPadded}

-- two sets of pairs, and room for their composition
pub record AreFactors (n : ℕ) (a b out : List ℕ) : Type 0 where
  pub left : length a ≡ n * words_a_row n
  pub right : length b ≡ n * words_a_row n
  pub room : length out ≡ n * words_a_row n
  pub padded : IsPadded n a

-- the second of them, and a row of the room
pub record IsTarget (n : ℕ) (b out : List ℕ) (number : ℕ) : Type 0 where
  pub right : length b ≡ n * words_a_row n
  pub room : length out ≡ n * words_a_row n
  pub row : number < n
