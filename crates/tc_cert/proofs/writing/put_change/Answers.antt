use Rattle.tc_cert.proofs.Ends.{first_of_three, second_of_three, third_put, third_fault}
use Rattle.tc_cert.proofs.writing.put_change.Goals as goal

pub returns-in_err-put_number-clause-cause : goal.returns-in_err-put_number-clause-cause
returns-in_err-put_number-clause-cause c = first_of_three c.args.text.now _ _ _ c.from_residual.result c.in_err-put_number.field-0.0 c.from_residual.ensures.1 c.in_err-put_number.ensures.cause

pub returns-in_err-put-clause-cause : goal.returns-in_err-put-clause-cause
returns-in_err-put-clause-cause c = second_of_three c.args.text.now c.put_number.new.self _ _ _ c.from_residual-in_err-put.result c.in_err-put.field-0.0 c.from_residual-in_err-put.ensures.1 c.in_ok-put_number.ensures.ok c.in_err-put.ensures.cause

pub returns-clause-ok : goal.returns-clause-ok
returns-clause-ok c = third_put c.args.text.now c.put_number.new.self c.put.new.self c.put_number-2.new.self _ _ _ c.put_number-2.result c.in_ok-put_number.ensures.ok c.in_ok-put.ensures.ok c.put_number-2.ensures.ok

pub returns-clause-cause : goal.returns-clause-cause
returns-clause-cause c = third_fault c.args.text.now c.put_number.new.self c.put.new.self _ _ _ c.put_number-2.result c.in_ok-put_number.ensures.ok c.in_ok-put.ensures.ok c.put_number-2.ensures.cause
