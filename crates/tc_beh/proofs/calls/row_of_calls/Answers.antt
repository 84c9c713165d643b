use Rattle.tc_beh.proofs.Steps.{no_value}
use Rattle.tc_beh.proofs.calls.row_of_calls.Goals as goal

pub returns-in_err-put_callees : goal.returns-in_err-put_callees
returns-in_err-put_callees c = no_value c.from_residual.result _ _ c.from_residual.ensures.1
