use Rattle.std.proofs.Common.{◌≡◌, ◌+◌, ◌*◌, ◌<◌, ℕ, get_or}
use Rattle.tc_mat.specs.Matrix.{words_a_row}
use Rattle.tc_mat.specs.Product.{IsUnitWord}
use Rattle.tc_mat.proofs.products.is_unit.Given as goal

abbrev pub invariant-loop-word : goal.invariant-loop-word
invariant-loop-word l =
    (l.width ≡ words_a_row l.n) × ((word : ℕ) → word < l.word → IsUnitWord l.row word (get_or l.a (l.row * words_a_row l.n + word) 0))
