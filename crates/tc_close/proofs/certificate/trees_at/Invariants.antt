use Rattle.std.proofs.Common.{◌≡◌, length, map, take}
use Rattle.tc_rows.specs.Triples.{Triple}
use Rattle.tc_close.specs.Lines.{tree_ranked}
use Rattle.tc_close.proofs.certificate.trees_at.Given as goal

abbrev pub invariant-loop-place : goal.invariant-loop-place
invariant-loop-place g l =
    (l.rows ≡ l.fn.rows)
    × ((x : Triple) → g.K.Over.is_of x → l.trees ≡ map (tree_ranked x l.fn.rows l.ranks) (take l.place l.numbers))
    × (length l.trees ≡ l.place)
