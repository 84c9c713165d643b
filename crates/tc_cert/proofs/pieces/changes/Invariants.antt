use Rattle.std.proofs.Common.{length}
use Rattle.tc_model.specs.CertificateLines.{change}
use Rattle.tc_cert.specs.Pieces.{AreNumbers}
use Rattle.tc_cert.proofs.Lists.{GoesOn}
use Rattle.tc_cert.proofs.pieces.changes.Given as goal

abbrev pub invariant-loop-next : goal.invariant-loop-next
invariant-loop-next l = GoesOn change AreNumbers l.end l.bytes l.found.items l.rest

abbrev pub decreases-loop-next : goal.decreases-loop-next
decreases-loop-next l = length l.rest
