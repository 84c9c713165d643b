use Rattle.std.proofs.Common.{refl}
use Rattle.tc_scan.proofs.PlainBlocks.{one_more_run}
use Rattle.tc_scan.proofs.chars.runs_len.Goals as goal

pub loop-at-preserved : goal.loop-at-preserved
loop-at-preserved c = record {
  within = c.next_plain-end.ensures.within.1;
  characters = one_more_run c.args.bytes.now c.plain_end-plain.result c.next_plain-end.result c.next_plain-end.ensures.within.0
      (c.plain_end-plain.ensures.characters c.loop-at.invariant.characters) (c.if-not-are_characters.ensures refl);
}
