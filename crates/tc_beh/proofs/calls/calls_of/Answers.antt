use Rattle.tc_beh.proofs.Steps.{no_value}
use Rattle.tc_beh.proofs.calls.calls_of.Goals as goal

pub returns-in_err-heights : goal.returns-in_err-heights
returns-in_err-heights c = no_value c.from_residual.result _ _ c.from_residual.ensures.1
