use Rattle.std.proofs.Common.{map, take}
use Rattle.tc_model.specs.Views.{place}
use Rattle.tc_simple.specs.Nodes.{IsLeast}
use Rattle.tc_simple.specs.Places.{maybe_place}
use Rattle.tc_simple.proofs.loops.least.Given as goal

abbrev pub invariant-loop-place : goal.invariant-loop-place
invariant-loop-place l = IsLeast (map place (take l.place-index l.places)) (maybe_place l.first)
