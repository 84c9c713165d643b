use Rattle.tc_cert.proofs.Ends.{first_of_three, second_of_three, third_put, third_fault}
use Rattle.tc_cert.proofs.Steps.{not_done}
use Rattle.tc_cert.proofs.lines.put_lists.Goals as goal

pub returns-in_err-put_field-clause-cause : goal.returns-in_err-put_field-clause-cause
returns-in_err-put_field-clause-cause c = first_of_three c.args.text.now _ _ _ c.from_residual.result c.in_err-put_field.field-0.0 c.from_residual.ensures.1 c.in_err-put_field.ensures.cause

pub returns-in_err-put_field-2-clause-cause : goal.returns-in_err-put_field-2-clause-cause
returns-in_err-put_field-2-clause-cause c = second_of_three c.args.text.now c.put_field.new.text _ _ _ c.from_residual-in_err-put_field-2.result c.in_err-put_field-2.field-0.0 c.from_residual-in_err-put_field-2.ensures.1 c.in_ok-put_field.ensures.ok c.in_err-put_field-2.ensures.cause

pub returns-clause-ok : goal.returns-clause-ok
returns-clause-ok c = third_put c.args.text.now c.put_field.new.text c.put_field-2.new.text c.put_field-3.new.text _ _ _ c.put_field-3.result c.in_ok-put_field.ensures.ok c.in_ok-put_field-2.ensures.ok c.put_field-3.ensures.ok

pub returns-clause-cause : goal.returns-clause-cause
returns-clause-cause c = third_fault c.args.text.now c.put_field.new.text c.put_field-2.new.text _ _ _ c.put_field-3.result c.in_ok-put_field.ensures.ok c.in_ok-put_field-2.ensures.ok c.put_field-3.ensures.cause

pub returns-in_err-put_field-clause-ok : goal.returns-in_err-put_field-clause-ok
returns-in_err-put_field-clause-ok c = not_done c.from_residual.result _ _ c.from_residual.ensures.1

pub returns-in_err-put_field-2-clause-ok : goal.returns-in_err-put_field-2-clause-ok
returns-in_err-put_field-2-clause-ok c = not_done c.from_residual-in_err-put_field-2.result _ _ c.from_residual-in_err-put_field-2.ensures.1
