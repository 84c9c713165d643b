use Rattle.std.proofs.Common.{◌≡◌, length, map, take}
use Rattle.tc_rows.specs.Triples.{Triple}
use Rattle.tc_close.specs.Lines.{hedge_ranked}
use Rattle.tc_close.proofs.certificate.hedges_at.Given as goal

abbrev pub invariant-loop-place : goal.invariant-loop-place
invariant-loop-place g l =
    (l.rows ≡ l.fn.rows)
    × ((x : Triple) → g.K.Over.is_of x → l.hedges ≡ map (hedge_ranked x l.fn.rows l.ranks) (take l.place l.numbers))
    × (length l.hedges ≡ l.place)
