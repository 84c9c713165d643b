use Rattle.tc_model.specs.Views.{place}
use Rattle.tc_simple.specs.Places.{maybe_place}
use Rattle.tc_simple.proofs.Answered.{least_next}
use Rattle.tc_simple.proofs.loops.least.Goals as goal

pub loop-place-preserved : goal.loop-place-preserved
loop-place-preserved c =
    least_next c.args.places.now c.loop-place.place-index _ (maybe_place c.loop-place.first) (place c.lesser.result) c.loop-place-test.true c.loop-place.invariant c.lesser.ensures
