use Rattle.tc_incl.proofs.HandedOn.{no_value}
use Rattle.tc_incl.proofs.inclusion.included_over.Goals as goal

pub returns-in_err-covers-clause-answer : goal.returns-in_err-covers-clause-answer
returns-in_err-covers-clause-answer g c = no_value c.from_residual.result _ _ c.from_residual.ensures.1
