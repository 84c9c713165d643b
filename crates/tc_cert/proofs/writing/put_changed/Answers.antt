use Rattle.tc_cert.proofs.Steps.{not_done}
use Rattle.tc_cert.proofs.writing.put_changed.Goals as goal

pub returns-in_err-changes-clause-ok : goal.returns-in_err-changes-clause-ok
returns-in_err-changes-clause-ok c = not_done c.from_residual.result _ _ c.from_residual.ensures.1

pub returns-in_err-put-clause-ok : goal.returns-in_err-put-clause-ok
returns-in_err-put-clause-ok c = not_done c.from_residual-in_err-put.result _ _ c.from_residual-in_err-put.ensures.1
