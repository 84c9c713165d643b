use Rattle.std.proofs.Common.{◌∙◌, arith}
use Rattle.std.proofs.lemmas.List.{take_all}
use Rattle.tc_stream.proofs.characters.cut_off.Goals as goal

pub returns : goal.returns
returns c = (
  c.loop-byte.invariant.bytes ∙ take_all c.loop-byte.byte-index c.args.bytes.now c.loop-byte-test.false,
  grind (arith, c.length_from.ensures.count, c.if-bytes-length_from.false),
)
