use Rattle.tc_beh.proofs.Steps.{no_value}
use Rattle.tc_beh.proofs.lines.list_of.Goals as goal

pub returns-in_err-push_number : goal.returns-in_err-push_number
returns-in_err-push_number c = no_value c.from_residual.result _ _ c.from_residual.ensures.1
