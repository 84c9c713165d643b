use Rattle.tc_beh.proofs.Steps.{not_done}
use Rattle.tc_beh.proofs.node_tests.add.Goals as goal

pub returns-in_err-push : goal.returns-in_err-push
returns-in_err-push c = not_done c.from_residual.result _ _ c.from_residual.ensures.1
