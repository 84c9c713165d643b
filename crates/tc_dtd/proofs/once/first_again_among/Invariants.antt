use Rattle.std.proofs.Common.{◌≡◌, take, map}
use Rattle.std.specs.List.{IsDistinct}
use Rattle.tc_dtd.proofs.OnceLaws.{same_key}
use Rattle.tc_dtd.proofs.once.first_again_among.Given as goal

-- the names so far, of which no two are the same
abbrev pub invariant-loop-one : goal.invariant-loop-one
invariant-loop-one l = record { keys : l.seen.keys ≡ map (λ x. x.declaration.name) (take l.one-index l.found); differ : IsDistinct same_key l.seen.keys }
