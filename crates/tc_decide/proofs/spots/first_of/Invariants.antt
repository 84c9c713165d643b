use Rattle.std.proofs.Common.{◌≡◌, ◌++◌, List, map, drop, Contains}
use Rattle.tc_dead.specs.Spots.{Spot, spots_of}
use Rattle.tc_dead.specs.Views.{seen}
use Rattle.tc_decide.specs.DeadSpots.{OfEach}
use Rattle.tc_decide.specs.DeadSpotsSeen.{StopsSpots}
use Rattle.tc_decide.specs.MachinesSeen.{IsReadOf}
use Rattle.tc_model.specs.Grammars.{Grammar}
use Rattle.tc_model.specs.Views as see
use Rattle.tc_decide.proofs.spots.first_of.Given as goal

abbrev pub invariant-loop-spot : goal.invariant-loop-spot
invariant-loop-spot l =
    (i : Grammar) → IsReadOf i l.marking.input → (ps : List Spot) → OfEach ps (Contains (spots_of (see.sheet l.marking.sheet))) → StopsSpots i (see.sheet l.marking.sheet) ps l.fn.failure
    → (qs : List Spot) × (qs ++ map seen (drop l.spot-index l.later) ≡ ps ++ map seen l.later) × StopsSpots i (see.sheet l.marking.sheet) qs l.found
