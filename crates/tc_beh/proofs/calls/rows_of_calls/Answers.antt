use Rattle.tc_beh.proofs.Steps.{no_value}
use Rattle.tc_beh.proofs.calls.rows_of_calls.Goals as goal

pub returns-in_err-row : goal.returns-in_err-row
returns-in_err-row c = no_value c.from_residual.result _ _ c.from_residual.ensures.1

pub returns-in_err-push : goal.returns-in_err-push
returns-in_err-push c = no_value c.from_residual-in_err-push.result _ _ c.from_residual-in_err-push.ensures.1
