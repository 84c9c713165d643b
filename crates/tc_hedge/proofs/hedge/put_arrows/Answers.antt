use Rattle.std.proofs.Common.{refl, ◌∙◌}
use Rattle.tc_hedge.proofs.Puts.{put_arrow, put_no_arrow, put_all_arrows}
use Rattle.tc_hedge.proofs.hedge.put_arrows.Goals as goal

pub loop-arrow-init : goal.loop-arrow-init
loop-arrow-init c = (refl, c.requires.matrix, put_no_arrow c.args.out.now)

pub loop-arrow-preserved : goal.loop-arrow-preserved
loop-arrow-preserved c = (
  c.set.ensures.size ∙ c.loop-arrow.invariant.0,
  c.set.ensures.matrix,
  put_arrow c.args.arrows.now c.loop-arrow.arrow-index _ c.loop-arrow-test.true c.args.out.now c.loop-arrow.out c.set.new.self c.loop-arrow.invariant.2 c.set.ensures.pairs,
)

pub returns-clause-pairs : goal.returns-clause-pairs
returns-clause-pairs c = put_all_arrows c.args.arrows.now c.loop-arrow.arrow-index c.loop-arrow-test.false c.args.out.now c.loop-arrow.out c.loop-arrow.invariant.2

pub returns-clause-kept : goal.returns-clause-kept
returns-clause-kept c = record { size = c.loop-arrow.invariant.0; matrix = c.loop-arrow.invariant.1 }
