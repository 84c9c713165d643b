use Rattle.tc_close.proofs.HandedOn.{not_done}
use Rattle.tc_close.proofs.order.PlacedLines.push.Goals as goal

pub returns-in_err-push : goal.returns-in_err-push
returns-in_err-push c = not_done c.from_residual.result _ _ c.from_residual.ensures.1
