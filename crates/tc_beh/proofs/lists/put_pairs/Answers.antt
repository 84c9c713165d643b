use Rattle.std.proofs.Common.{◌∙◌, arith}
use Rattle.tc_beh.proofs.InOrder.{got_among, has_one_more}
use Rattle.tc_beh.proofs.lists.put_pairs.Goals as goal

pub set-requires-clause-row : goal.set-requires-clause-row
set-requires-clause-row c =
    let p = c.get.result.now in
    let low = (c.requires p.0 p.1 (got_among c.args.pairs.now c.loop-place.place p c.get.ensures)).0 in
    let same = c.loop-place.invariant.size in
    omega (arith, low, same)

pub set-requires-clause-column : goal.set-requires-clause-column
set-requires-clause-column c =
    let p = c.get.result.now in
    let low = (c.requires p.0 p.1 (got_among c.args.pairs.now c.loop-place.place p c.get.ensures)).1 in
    let same = c.loop-place.invariant.size in
    omega (arith, low, same)

pub loop-place-preserved : goal.loop-place-preserved
loop-place-preserved c = record {
  size = c.set.ensures.size ∙ c.loop-place.invariant.size;
  matrix = c.set.ensures.matrix;
  pairs = has_one_more c.loop-place.set c.set.new.self c.args.pairs.now c.loop-place.place c.get.result.now c.get.ensures c.set.ensures.pairs c.loop-place.invariant.pairs;
}
