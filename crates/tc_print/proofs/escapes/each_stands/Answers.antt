use Rattle.std.proofs.Common.{arith}
use Rattle.tc_print.specs.Pieces.{escaped}
use Rattle.tc_print.proofs.Plain.{all_stay, one_more_stays}
use Rattle.tc_print.proofs.escapes.each_stands.Goals as goal

pub loop-byte-preserved : goal.loop-byte-preserved
loop-byte-preserved c = one_more_stays (escaped c.args.within) c.args.bytes.now c.loop-byte.byte-index c.loop-byte.invariant (c.stands.ensures c.if-not-stands.false)

pub returns : goal.returns
returns c = λ _. all_stay (escaped c.args.within) c.args.bytes.now (λ k l. c.loop-byte.invariant k (omega arith))
