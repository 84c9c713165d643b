use Rattle.tc_cert.specs.Puts.{IsCause}
use Rattle.tc_cert.specs.Texts.{ended, counted}
use Rattle.tc_cert.proofs.Puts.{both, at_first, at_second}
use Rattle.tc_cert.proofs.Ends.{last_put, last_fault}
use Rattle.tc_cert.proofs.Steps.{same_error}
use Rattle.tc_cert.proofs.writing.put_count.Goals as goal

pub returns-in_err-put-clause-cause : goal.returns-in_err-put-clause-cause
returns-in_err-put-clause-cause c =
    same_error (IsCause c.args.text.now (ended (counted c.args.kind.now c.args.count))) c.from_residual.result c.in_err-put.field-0.0 c.from_residual.ensures.1
    (at_first _ (at_first _ (at_first _ c.in_err-put.ensures.cause)))

pub returns-in_err-put-2-clause-cause : goal.returns-in_err-put-2-clause-cause
returns-in_err-put-2-clause-cause c =
    same_error (IsCause c.args.text.now (ended (counted c.args.kind.now c.args.count))) c.from_residual-in_err-put-2.result c.in_err-put-2.field-0.0 c.from_residual-in_err-put-2.ensures.1
    (at_first _ (at_first _ (at_second c.in_ok-put.ensures.ok c.in_err-put-2.ensures.cause)))

pub returns-in_err-put_number-clause-cause : goal.returns-in_err-put_number-clause-cause
returns-in_err-put_number-clause-cause c =
    same_error (IsCause c.args.text.now (ended (counted c.args.kind.now c.args.count))) c.from_residual-in_err-put_number.result c.in_err-put_number.field-0.0 c.from_residual-in_err-put_number.ensures.1
    (at_first _ (at_second (both c.in_ok-put.ensures.ok c.in_ok-put-2.ensures.ok) c.in_err-put_number.ensures.cause))

pub returns-clause-ok : goal.returns-clause-ok
returns-clause-ok c =
    last_put c.args.text.now c.put_number.new.self c.put-3.new.self _ _ c.put-3.result
    (both (both c.in_ok-put.ensures.ok c.in_ok-put-2.ensures.ok) c.in_ok-put_number.ensures.ok) c.put-3.ensures.ok

pub returns-clause-cause : goal.returns-clause-cause
returns-clause-cause c =
    last_fault c.args.text.now c.put_number.new.self _ _ c.put-3.result
    (both (both c.in_ok-put.ensures.ok c.in_ok-put-2.ensures.ok) c.in_ok-put_number.ensures.ok) c.put-3.ensures.cause
