use Rattle.std.proofs.Common.{length}
use Rattle.tc_cert.proofs.Lists.{PairsGoOn}
use Rattle.tc_cert.proofs.pieces.pairs.Given as goal

abbrev pub invariant-loop-after : goal.invariant-loop-after
invariant-loop-after l = PairsGoOn l.bytes l.found l.rest

abbrev pub decreases-loop-after : goal.decreases-loop-after
decreases-loop-after l = length l.rest
