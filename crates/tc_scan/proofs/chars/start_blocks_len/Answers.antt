use Rattle.std.proofs.Common.{arith}
use Rattle.tc_scan.proofs.PlainBlocks.{one_more_start_block}
use Rattle.tc_scan.proofs.chars.start_blocks_len.Goals as goal

pub loop-at-preserved : goal.loop-at-preserved
loop-at-preserved c = record {
  within = omega arith;
  only = one_more_start_block c.args.bytes.now c.loop-at.at c.loop-at.invariant.only (c.is_start_block.ensures c.if-not-is_start_block.false);
}
