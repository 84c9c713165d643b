use Rattle.tc_cert.proofs.Ends.{stops_first, last_put, last_fault}
use Rattle.tc_cert.proofs.Steps.{not_done}
use Rattle.tc_cert.proofs.lines.put_tree_line.Goals as goal

pub returns-in_err-put_front-clause-cause : goal.returns-in_err-put_front-clause-cause
returns-in_err-put_front-clause-cause c = stops_first c.args.text.now _ _ c.from_residual.result c.in_err-put_front.field-0.0 c.from_residual.ensures.1 c.in_err-put_front.ensures.cause

pub returns-clause-ok : goal.returns-clause-ok
returns-clause-ok c = last_put c.args.text.now c.put_front.new.text c.put_lists.new.text _ _ c.put_lists.result c.in_ok-put_front.ensures.ok c.put_lists.ensures.ok

pub returns-clause-cause : goal.returns-clause-cause
returns-clause-cause c = last_fault c.args.text.now c.put_front.new.text _ _ c.put_lists.result c.in_ok-put_front.ensures.ok c.put_lists.ensures.cause

pub returns-in_err-put_front-clause-ok : goal.returns-in_err-put_front-clause-ok
returns-in_err-put_front-clause-ok c = not_done c.from_residual.result _ _ c.from_residual.ensures.1
