use Rattle.std.proofs.Common.{length, decimal}
use Rattle.tc_model.specs.CertificateData.{IsNumber}
use Rattle.tc_cert.proofs.Lists.{GoesOn}
use Rattle.tc_cert.proofs.pieces.numbers.Given as goal

abbrev pub invariant-loop-next : goal.invariant-loop-next
invariant-loop-next l = GoesOn decimal IsNumber l.end l.bytes l.found.items l.rest

abbrev pub decreases-loop-next : goal.decreases-loop-next
decreases-loop-next l = length l.rest
