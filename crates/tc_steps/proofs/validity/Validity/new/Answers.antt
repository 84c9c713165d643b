use Rattle.std.proofs.Common.{refl}
use Rattle.tc_steps.proofs.OpenLaws.{none_open}
use Rattle.tc_steps.proofs.FailedLaws.{no_value}
use Rattle.tc_steps.proofs.validity.Validity.new.Goals as goal

pub returns-clause-within : goal.returns-clause-within
returns-clause-within c = λ x other sheet st e. none_open c.in_ok-levels.levels.items (c.in_ok-steps.ensures.right x other sheet st e)

pub returns-in_err-steps-clause-room : goal.returns-in_err-steps-clause-room
returns-in_err-steps-clause-room c = no_value c.from_residual.result _ _ c.from_residual.ensures.1

pub returns-in_err-steps-clause-depth : goal.returns-in_err-steps-clause-depth
returns-in_err-steps-clause-depth c = no_value c.from_residual.result _ _ c.from_residual.ensures.1

pub returns-in_err-steps-clause-within : goal.returns-in_err-steps-clause-within
returns-in_err-steps-clause-within c = no_value c.from_residual.result _ _ c.from_residual.ensures.1

pub returns-in_err-levels-clause-room : goal.returns-in_err-levels-clause-room
returns-in_err-levels-clause-room c = no_value c.from_residual-in_err-levels.result _ _ c.from_residual-in_err-levels.ensures.1

pub returns-in_err-levels-clause-depth : goal.returns-in_err-levels-clause-depth
returns-in_err-levels-clause-depth c = no_value c.from_residual-in_err-levels.result _ _ c.from_residual-in_err-levels.ensures.1

pub returns-in_err-levels-clause-within : goal.returns-in_err-levels-clause-within
returns-in_err-levels-clause-within c = no_value c.from_residual-in_err-levels.result _ _ c.from_residual-in_err-levels.ensures.1

pub returns-in_err-ended-clause-room : goal.returns-in_err-ended-clause-room
returns-in_err-ended-clause-room c = no_value c.from_residual-in_err-ended.result _ _ c.from_residual-in_err-ended.ensures.1

pub returns-in_err-ended-clause-depth : goal.returns-in_err-ended-clause-depth
returns-in_err-ended-clause-depth c = no_value c.from_residual-in_err-ended.result _ _ c.from_residual-in_err-ended.ensures.1

pub returns-in_err-ended-clause-within : goal.returns-in_err-ended-clause-within
returns-in_err-ended-clause-within c = no_value c.from_residual-in_err-ended.result _ _ c.from_residual-in_err-ended.ensures.1

pub returns-clause-room : goal.returns-clause-room
returns-clause-room c = c.in_ok-levels.ensures.count

pub returns-clause-depth : goal.returns-clause-depth
returns-clause-depth c = refl
