use Rattle.std.proofs.Common.{refl}
use Rattle.tc_decide.proofs.SpotsTold.{told_more, told_push, told_end, stopped_at, spots_later, rest_is}
use Rattle.tc_decide.proofs.spots.told_of_all.Goals as goal
use Rattle.tc_model.specs.Views as see

pub first_of-requires-clause-later : goal.first_of-requires-clause-later
first_of-requires-clause-later c = spots_later c.args.spots.now _ _ _ c.requires.spots

pub returns-in-Err : goal.returns-in-Err
returns-in-Err c = λ i read.
    stopped_at i (see.sheet c.args.marking.now.sheet) c.loop-index.index c.args.spots.now _ c.loop-index.found.items _ c.in-Err.failure c.first_of.result c.loop-index-test.true
    (rest_is c.args.spots.now _) c.requires.spots c.loop-index.invariant.spots (c.loop-index.invariant.told i read) (c.in-Err.ensures.err i read) (c.first_of.ensures i read)

pub loop-index-preserved : goal.loop-index-preserved
loop-index-preserved c = record {
  spots = told_more c.loop-index.index c.args.spots.now c.loop-index.found.items c.push.new.self.items _ _ c.loop-index-test.true c.in-Ok-push.ensures.items refl c.loop-index.invariant.spots;
  told = λ i read.
      told_push i (see.sheet c.args.marking.now.sheet) c.loop-index.found.items c.push.new.self.items _ c.in-Ok-push.ensures.items (c.loop-index.invariant.told i read) (c.in-Ok.ensures.ok i read);
}

pub returns : goal.returns
returns c = λ i read.
    told_end i (see.sheet c.args.marking.now.sheet) c.loop-index.index c.args.spots.now c.loop-index.found.items c.into_bump_slice.result.now c.loop-index-test.false c.requires.spots c.loop-index.invariant.spots
    (c.loop-index.invariant.told i read) c.into_bump_slice.ensures
