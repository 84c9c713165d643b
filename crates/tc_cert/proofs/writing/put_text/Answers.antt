use Rattle.tc_cert.specs.Texts as texts
use Rattle.tc_cert.specs.Texts.{by_changes}
use Rattle.tc_cert.proofs.Steps.{three, not_done, same_error}
use Rattle.tc_cert.proofs.Ends.{stops_first, last_fault}
use Rattle.tc_cert.proofs.Puts.{at_first, at_second}
use Rattle.tc_cert.specs.Puts.{IsCause}
use Rattle.tc_cert.proofs.writing.put_text.Goals as goal

pub returns-clause-ok : goal.returns-clause-ok
returns-clause-ok c = three c.put_rows.new.text (texts.rows_part by_changes c.args.cert.now) c.put_rows.result c.in_ok-put.ensures.ok c.in_ok-put_outputs.ensures.ok c.put_rows.ensures.ok

pub returns-in_err-put-clause-ok : goal.returns-in_err-put-clause-ok
returns-in_err-put-clause-ok c = not_done c.from_residual.result _ _ c.from_residual.ensures.1

pub returns-in_err-put_outputs-clause-ok : goal.returns-in_err-put_outputs-clause-ok
returns-in_err-put_outputs-clause-ok c = not_done c.from_residual-in_err-put_outputs.result _ _ c.from_residual-in_err-put_outputs.ensures.1

pub returns-in_err-put-clause-cause : goal.returns-in_err-put-clause-cause
returns-in_err-put-clause-cause c = stops_first c.args.text.now _ _ c.from_residual.result c.in_err-put.field-0.0 c.from_residual.ensures.1 c.in_err-put.ensures.cause

pub returns-in_err-put_outputs-clause-cause : goal.returns-in_err-put_outputs-clause-cause
returns-in_err-put_outputs-clause-cause c =
    same_error (IsCause c.args.text.now (texts.text by_changes c.args.cert.now)) c.from_residual-in_err-put_outputs.result c.in_err-put_outputs.field-0.0 c.from_residual-in_err-put_outputs.ensures.1
    (at_second c.in_ok-put.ensures.ok (at_first (texts.rows_part by_changes c.args.cert.now) c.in_err-put_outputs.ensures.cause))

pub returns-clause-cause : goal.returns-clause-cause
returns-clause-cause c = last_fault c.args.text.now c.put.new.self _ _ c.put_rows.result c.in_ok-put.ensures.ok (last_fault c.put.new.self c.put_outputs.new.text _ _ c.put_rows.result c.in_ok-put_outputs.ensures.ok c.put_rows.ensures.cause)
