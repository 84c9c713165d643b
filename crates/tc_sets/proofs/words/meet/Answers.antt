use Rattle.std.proofs.Common.{bit_and, refl, arith}
use Rattle.tc_sets.proofs.Bits.{word_more, all_words}
use Rattle.tc_sets.proofs.words.meet.Goals as goal

pub loop-k-preserved : goal.loop-k-preserved
loop-k-preserved c = word_more bit_and c.args.words.now c.args.other.now c.loop-k.words c.loop-k.k (omega (arith, c.loop-k-test.true, c.loop-k.auto.words)) c.loop-k.invariant

pub returns : goal.returns
returns c = all_words bit_and refl c.args.words.now c.args.other.now c.loop-k.words c.loop-k.k (omega (arith, c.loop-k-test.false, c.loop-k.auto.words)) c.loop-k.auto.words c.requires c.loop-k.invariant
