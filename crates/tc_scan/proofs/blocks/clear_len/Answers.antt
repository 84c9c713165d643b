use Rattle.std.proofs.Common.{arith, ◌+◌, ap, ◌∙◌}
use Rattle.tc_scan.specs.Blocks.{is_clear}
use Rattle.tc_scan.proofs.BlockLaws.{past_block, within_block}
use Rattle.tc_scan.proofs.blocks.clear_len.Goals as goal

pub returns-then-count-lt-BLOCK : goal.returns-then-count-lt-BLOCK
returns-then-count-lt-BLOCK c =
    ap (λ n. c.loop-at.at + n) c.clear_block_len-count.ensures.count
    ∙ within_block is_clear c.args.bytes.now c.loop-at.at c.loop-at.invariant.count (omega (arith, c.loop-at-test.true, c.loop-at.invariant.within)) (omega (arith, c.clear_block_len-count.ensures.count, c.if-count-lt-BLOCK.true))

pub loop-at-preserved : goal.loop-at-preserved
loop-at-preserved c = record {
  within = omega (arith, c.loop-at-test.true, c.loop-at.invariant.within);
  count = past_block is_clear c.args.bytes.now c.loop-at.at c.loop-at.invariant.count (omega (arith, c.loop-at-test.true, c.loop-at.invariant.within))
      (omega (arith, c.clear_block_len-count.ensures.count, c.clear_block_len-count.ensures.within, c.if-count-lt-BLOCK.false));
}
