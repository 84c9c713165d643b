use Rattle.tc_decide.proofs.spots.try_within.Goals as goal
use Rattle.tc_read.proofs.Exits.{err_is}

pub returns-in_err-machine-clause-err : goal.returns-in_err-machine-clause-err
returns-in_err-machine-clause-err c = err_is c.from_residual.result _ _ c.from_residual.ensures.1 c.in_err-machine.ensures.err

pub returns-clause-within : goal.returns-clause-within
returns-clause-within c = λ i read. (c.in_ok-machine.ensures.ok i read).within_limits
