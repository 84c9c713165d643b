use Rattle.tc_model.specs.CertificateLines as lines
use Rattle.tc_cert.specs.Puts.{IsCause}
use Rattle.tc_cert.proofs.Steps.{piece_step, piece_cause, same_error, not_done}
use Rattle.std.proofs.Common.{refl, arith}
use Rattle.tc_cert.proofs.Puts.{begun, ended}
use Rattle.tc_cert.proofs.Loops.{no_piece}
use Rattle.tc_cert.proofs.Ends.{stops_first}
use Rattle.tc_cert.proofs.lines.put_pairs_line.Goals as goal

pub returns-in_err-put_pair-clause-cause : goal.returns-in_err-put_pair-clause-cause
returns-in_err-put_pair-clause-cause c =
    same_error (IsCause c.args.text.now (lines.pairs_line c.args.pairs.now)) c.from_residual-in_err-put_pair.result c.in_err-put_pair.field-0.0 c.from_residual-in_err-put_pair.ensures.1
    (piece_cause lines.pair c.args.pairs.now c.loop-i.i c.get.result.now c.get.ensures c.loop-i.invariant c.in_err-put_pair.ensures.cause)

pub loop-i-preserved : goal.loop-i-preserved
loop-i-preserved c = piece_step lines.pair c.args.pairs.now c.loop-i.i c.get.result.now c.get.ensures c.loop-i.invariant c.in_ok-put_pair.ensures.ok

pub returns-in_err-put-clause-ok : goal.returns-in_err-put-clause-ok
returns-in_err-put-clause-ok c = not_done c.from_residual.result _ _ c.from_residual.ensures.1

pub returns-in_err-put_pair-clause-ok : goal.returns-in_err-put_pair-clause-ok
returns-in_err-put_pair-clause-ok c = not_done c.from_residual-in_err-put_pair.result _ _ c.from_residual-in_err-put_pair.ensures.1

pub returns-in_err-put-clause-cause : goal.returns-in_err-put-clause-cause
returns-in_err-put-clause-cause c = stops_first c.args.text.now _ _ c.from_residual.result c.in_err-put.field-0.0 c.from_residual.ensures.1 c.in_err-put.ensures.cause

pub loop-i-init : goal.loop-i-init
loop-i-init c = begun c.in_ok-put.ensures.ok refl

pub returns-clause-ok : goal.returns-clause-ok
returns-clause-ok c = ended c.loop-i.invariant (no_piece lines.pair c.args.pairs.now c.loop-i.i (omega arith))

pub returns-clause-cause : goal.returns-clause-cause
returns-clause-cause c = tt
