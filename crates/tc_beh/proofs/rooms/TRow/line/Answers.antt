use Rattle.tc_beh.proofs.Steps.{no_value}
use Rattle.tc_beh.proofs.rooms.TRow.line.Goals as goal

pub returns-in_err-patterns : goal.returns-in_err-patterns
returns-in_err-patterns c = no_value c.from_residual.result _ _ c.from_residual.ensures.1

pub returns-in_err-outs : goal.returns-in_err-outs
returns-in_err-outs c = no_value c.from_residual-in_err-outs.result _ _ c.from_residual-in_err-outs.ensures.1

pub returns-in_err-looks : goal.returns-in_err-looks
returns-in_err-looks c = no_value c.from_residual-in_err-looks.result _ _ c.from_residual-in_err-looks.ensures.1
