use Rattle.std.proofs.Common.{arith}
use Rattle.tc_scan.proofs.PlainBlocks.{one_more_block}
use Rattle.tc_scan.proofs.chars.plain_end.Goals as goal

pub loop-at-preserved : goal.loop-at-preserved
loop-at-preserved c = record {
  forth = omega arith;
  within = omega arith;
  characters = λ h. one_more_block c.args.bytes.now c.loop-at.at (c.loop-at.invariant.characters h) (c.is_plain.ensures c.if-not-is_plain.false);
}
