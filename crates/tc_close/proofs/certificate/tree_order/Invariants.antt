use Rattle.std.proofs.Common.{◌≡◌, length, map}
use Rattle.tc_model.specs.CertificateLines.{tree_line}
use Rattle.tc_model.specs.Numbered.{numbers_below}
use Rattle.tc_rows.specs.Triples.{Triple}
use Rattle.tc_close.specs.Lines.{tree_ranked}
use Rattle.tc_close.proofs.certificate.tree_order.Given as goal

abbrev pub invariant-loop-place : goal.invariant-loop-place
invariant-loop-place g l =
    (l.rows ≡ l.fn.rows)
    × ((x : Triple) → g.K.Over.is_of x → l.all ≡ map (λ p. tree_line (tree_ranked x l.fn.rows l.ranks p)) (numbers_below l.place))
    × (length l.all ≡ l.place)
