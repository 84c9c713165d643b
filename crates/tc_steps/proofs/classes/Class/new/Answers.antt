use Rattle.std.proofs.Common.{◌∙◌, refl}
use Rattle.tc_steps.proofs.FailedLaws.{no_value}
use Rattle.tc_steps.proofs.classes.Class.new.Goals as goal

pub returns-in_err-numbers-clause-unknown : goal.returns-in_err-numbers-clause-unknown
returns-in_err-numbers-clause-unknown c = no_value c.from_residual.result _ _ c.from_residual.ensures.1

pub returns-in_err-numbers-clause-numbers : goal.returns-in_err-numbers-clause-numbers
returns-in_err-numbers-clause-numbers c = no_value c.from_residual.result _ _ c.from_residual.ensures.1

pub returns-in_err-numbers-clause-firsts : goal.returns-in_err-numbers-clause-firsts
returns-in_err-numbers-clause-firsts c = no_value c.from_residual.result _ _ c.from_residual.ensures.1

pub returns-in_err-firsts-clause-unknown : goal.returns-in_err-firsts-clause-unknown
returns-in_err-firsts-clause-unknown c = no_value c.from_residual-in_err-firsts.result _ _ c.from_residual-in_err-firsts.ensures.1

pub returns-in_err-firsts-clause-numbers : goal.returns-in_err-firsts-clause-numbers
returns-in_err-firsts-clause-numbers c = no_value c.from_residual-in_err-firsts.result _ _ c.from_residual-in_err-firsts.ensures.1

pub returns-in_err-firsts-clause-firsts : goal.returns-in_err-firsts-clause-firsts
returns-in_err-firsts-clause-firsts c = no_value c.from_residual-in_err-firsts.result _ _ c.from_residual-in_err-firsts.ensures.1

pub returns-clause-unknown : goal.returns-clause-unknown
returns-clause-unknown c = refl

pub returns-clause-numbers : goal.returns-clause-numbers
returns-clause-numbers c = c.in_ok-numbers.ensures.size ∙ c.requires
