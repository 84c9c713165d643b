use Rattle.std.proofs.Common.{arith, ◌+◌, ap, ◌∙◌}
use Rattle.tc_model.specs.XmlTextReferences.{is_plain}
use Rattle.tc_scan.proofs.BlockLaws.{past_block, within_block, past_blocks, whole_within}
use Rattle.tc_scan.proofs.blocks.plain_bytes_len.Goals as goal

pub returns-then-count-lt-BLOCK-clause-count : goal.returns-then-count-lt-BLOCK-clause-count
returns-then-count-lt-BLOCK-clause-count c =
    ap (λ n. c.loop-at.at + n) c.plain_block_len-count.ensures.count
    ∙ within_block is_plain c.args.bytes.now c.loop-at.at c.loop-at.invariant.count (omega (arith, c.loop-at-test.true, c.loop-at.invariant.within)) (omega (arith, c.plain_block_len-count.ensures.count, c.if-count-lt-BLOCK.true))

pub loop-at-preserved : goal.loop-at-preserved
loop-at-preserved c = record {
  within = omega (arith, c.loop-at-test.true, c.loop-at.invariant.within);
  count = past_block is_plain c.args.bytes.now c.loop-at.at c.loop-at.invariant.count (omega (arith, c.loop-at-test.true, c.loop-at.invariant.within))
      (omega (arith, c.plain_block_len-count.ensures.count, c.plain_block_len-count.ensures.within, c.if-count-lt-BLOCK.false));
}

pub returns-clause-count : goal.returns-clause-count
returns-clause-count c = past_blocks is_plain c.args.bytes.now c.loop-at.at c.each_plain_len.result c.loop-at.invariant.count c.loop-at.invariant.within c.each_plain_len.ensures.count

pub returns-clause-within : goal.returns-clause-within
returns-clause-within c = whole_within is_plain c.args.bytes.now _ (returns-clause-count c)
