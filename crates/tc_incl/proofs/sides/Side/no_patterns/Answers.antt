use Rattle.tc_incl.proofs.HandedOn.{no_value}
use Rattle.tc_incl.proofs.sides.Side.no_patterns.Goals as goal

pub returns-in_err-none-clause-size : goal.returns-in_err-none-clause-size
returns-in_err-none-clause-size c = no_value c.from_residual.result _ _ c.from_residual.ensures.1

pub returns-in_err-none-clause-set : goal.returns-in_err-none-clause-set
returns-in_err-none-clause-set c = no_value c.from_residual.result _ _ c.from_residual.ensures.1

pub returns-in_err-none-clause-numbers : goal.returns-in_err-none-clause-numbers
returns-in_err-none-clause-numbers c = no_value c.from_residual.result _ _ c.from_residual.ensures.1
