use Rattle.std.proofs.Common.{codes, decimal}
use Rattle.tc_cert.proofs.Steps.{not_done}
use Rattle.tc_cert.proofs.Ends.{stops_first, last_put, last_fault}
use Rattle.tc_cert.proofs.Puts.{both, at_first, at_second}
use Rattle.tc_cert.proofs.lines.put_pair.Goals as goal

pub returns-in_err-put-clause-ok : goal.returns-in_err-put-clause-ok
returns-in_err-put-clause-ok c = not_done c.from_residual.result _ _ c.from_residual.ensures.1

pub returns-in_err-put_number-clause-ok : goal.returns-in_err-put_number-clause-ok
returns-in_err-put_number-clause-ok c = not_done c.from_residual-in_err-put_number.result _ _ c.from_residual-in_err-put_number.ensures.1

pub returns-in_err-put-2-clause-ok : goal.returns-in_err-put-2-clause-ok
returns-in_err-put-2-clause-ok c = not_done c.from_residual-in_err-put-2.result _ _ c.from_residual-in_err-put-2.ensures.1

pub returns-in_err-put-clause-cause : goal.returns-in_err-put-clause-cause
returns-in_err-put-clause-cause c = stops_first c.args.text.now _ (decimal c.args.pair.1) c.from_residual.result c.in_err-put.field-0.0 c.from_residual.ensures.1 (at_first (codes ">") (at_first (decimal c.args.pair.0) c.in_err-put.ensures.cause))

pub returns-in_err-put_number-clause-cause : goal.returns-in_err-put_number-clause-cause
returns-in_err-put_number-clause-cause c = stops_first c.args.text.now _ _ c.from_residual-in_err-put_number.result c.in_err-put_number.field-0.0 c.from_residual-in_err-put_number.ensures.1 (at_first (codes ">") (at_second c.in_ok-put.ensures.ok c.in_err-put_number.ensures.cause))

pub returns-in_err-put-2-clause-cause : goal.returns-in_err-put-2-clause-cause
returns-in_err-put-2-clause-cause c = stops_first c.args.text.now _ _ c.from_residual-in_err-put-2.result c.in_err-put-2.field-0.0 c.from_residual-in_err-put-2.ensures.1 (at_second (both c.in_ok-put.ensures.ok c.in_ok-put_number.ensures.ok) c.in_err-put-2.ensures.cause)

pub returns-clause-ok : goal.returns-clause-ok
returns-clause-ok c = last_put c.args.text.now c.put-2.new.self c.put_number-2.new.self _ _ c.put_number-2.result (both (both c.in_ok-put.ensures.ok c.in_ok-put_number.ensures.ok) c.in_ok-put-2.ensures.ok) c.put_number-2.ensures.ok

pub returns-clause-cause : goal.returns-clause-cause
returns-clause-cause c = last_fault c.args.text.now c.put-2.new.self _ _ c.put_number-2.result (both (both c.in_ok-put.ensures.ok c.in_ok-put_number.ensures.ok) c.in_ok-put-2.ensures.ok) c.put_number-2.ensures.cause
