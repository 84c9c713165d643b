use Rattle.std.proofs.Common.{◌≡◌, take, map}
use Rattle.tc_dtd.specs.PlacedViews.{placed}
use Rattle.tc_dtd.specs.Views.{declaration}
use Rattle.tc_dtd.proofs.once.without_places.Given as goal

abbrev pub invariant-loop-one : goal.invariant-loop-one
invariant-loop-one l = map declaration l.out.items ≡ map (λ x. x.declaration) (map placed (take l.one-index l.found))
