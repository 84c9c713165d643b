use Rattle.std.proofs.Common.{◌++◌, codes, decimal, arith}
use Rattle.tc_model.specs.CertificateLines as lines
use Rattle.tc_cert.specs.Puts.{IsCause}
use Rattle.tc_cert.proofs.Steps.{piece_step, piece_cause, same_error, not_done, listed_begun, listed_cause}
use Rattle.tc_cert.proofs.Puts.{both, at_first, at_second, ended}
use Rattle.tc_cert.proofs.Loops.{no_piece}
use Rattle.tc_cert.proofs.lines.put_numbers.Goals as goal

pub returns-in_err-put-clause-cause : goal.returns-in_err-put-clause-cause
returns-in_err-put-clause-cause c =
    same_error (IsCause c.args.text.now (lines.numbers c.args.numbers.now)) c.from_residual-in_err-put.result c.in_err-put.field-0.0 c.from_residual-in_err-put.ensures.1
    (piece_cause (λ n. codes "," ++ decimal n) c.args.numbers.now c.loop-i.i c.get-number.result.now c.get-number.ensures c.loop-i.invariant (at_first _ c.in_err-put.ensures.cause))

pub returns-in_err-put_number-2-clause-cause : goal.returns-in_err-put_number-2-clause-cause
returns-in_err-put_number-2-clause-cause c =
    same_error (IsCause c.args.text.now (lines.numbers c.args.numbers.now)) c.from_residual-in_err-put_number-2.result c.in_err-put_number-2.field-0.0 c.from_residual-in_err-put_number-2.ensures.1
    (piece_cause (λ n. codes "," ++ decimal n) c.args.numbers.now c.loop-i.i c.get-number.result.now c.get-number.ensures c.loop-i.invariant (at_second c.in_ok-put.ensures.ok c.in_err-put_number-2.ensures.cause))

pub loop-i-preserved : goal.loop-i-preserved
loop-i-preserved c = piece_step (λ n. codes "," ++ decimal n) c.args.numbers.now c.loop-i.i c.get-number.result.now c.get-number.ensures c.loop-i.invariant (both c.in_ok-put.ensures.ok c.in_ok-put_number-2.ensures.ok)

pub returns-in_err-put_number-clause-ok : goal.returns-in_err-put_number-clause-ok
returns-in_err-put_number-clause-ok c = not_done c.from_residual.result _ _ c.from_residual.ensures.1

pub returns-in_err-put-clause-ok : goal.returns-in_err-put-clause-ok
returns-in_err-put-clause-ok c = not_done c.from_residual-in_err-put.result _ _ c.from_residual-in_err-put.ensures.1

pub returns-in_err-put_number-2-clause-ok : goal.returns-in_err-put_number-2-clause-ok
returns-in_err-put_number-2-clause-ok c = not_done c.from_residual-in_err-put_number-2.result _ _ c.from_residual-in_err-put_number-2.ensures.1

pub returns-in_err-put_number-clause-cause : goal.returns-in_err-put_number-clause-cause
returns-in_err-put_number-clause-cause c =
    same_error (IsCause c.args.text.now (lines.numbers c.args.numbers.now)) c.from_residual.result c.in_err-put_number.field-0.0 c.from_residual.ensures.1
    (listed_cause decimal c.args.numbers.now c.get.result.now c.get.ensures c.in_err-put_number.ensures.cause)

pub loop-i-init : goal.loop-i-init
loop-i-init c = listed_begun decimal c.args.numbers.now c.get.result.now c.get.ensures c.in_ok-put_number.ensures.ok

pub returns-clause-ok : goal.returns-clause-ok
returns-clause-ok c = ended c.loop-i.invariant (no_piece (λ n. codes "," ++ decimal n) c.args.numbers.now c.loop-i.i (omega arith))

pub returns-clause-cause : goal.returns-clause-cause
returns-clause-cause c = tt
