use Rattle.std.proofs.Common.{◌≡◌}
use Rattle.tc_mat.specs.Matrix.{words_a_row}
use Rattle.tc_mat.proofs.Rows.{IsAddedUpTo}
use Rattle.tc_mat.proofs.products.add_row.Given as goal

abbrev pub invariant-loop-word : goal.invariant-loop-word
invariant-loop-word l = (l.width ≡ words_a_row l.n) × IsAddedUpTo l.n l.b l.from l.row l.word l.initial.out l.out
