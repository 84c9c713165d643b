use Rattle.tc_incl.proofs.HandedOn.{no_value}
use Rattle.tc_incl.proofs.both.Both.steps.Goals as goal

pub returns : goal.returns
returns c = record { first = c.in_ok-first.ensures; second = c.in_ok-second.ensures }

pub returns-in_err-first : goal.returns-in_err-first
returns-in_err-first c = no_value c.from_residual.result _ _ c.from_residual.ensures.1

pub returns-in_err-second : goal.returns-in_err-second
returns-in_err-second c = no_value c.from_residual-in_err-second.result _ _ c.from_residual-in_err-second.ensures.1
