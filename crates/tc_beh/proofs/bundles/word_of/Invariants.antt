use Rattle.tc_beh.proofs.Bundling.{AreFirstBits}
use Rattle.tc_beh.proofs.bundles.word_of.Given as goal

abbrev pub invariant-loop-place : goal.invariant-loop-place
invariant-loop-place l = AreFirstBits l.flags l.word l.place l.bits
