use Rattle.tc_incl.proofs.HandedOn.{no_value}
use Rattle.tc_incl.proofs.sides.Side.of.Goals as goal

pub returns-in_err-end-clause-auto : goal.returns-in_err-end-clause-auto
returns-in_err-end-clause-auto c = no_value c.from_residual.result _ _ c.from_residual.ensures.1

pub returns-in_err-end-clause-count : goal.returns-in_err-end-clause-count
returns-in_err-end-clause-count c = no_value c.from_residual.result _ _ c.from_residual.ensures.1

pub returns-in_err-end-clause-allowed : goal.returns-in_err-end-clause-allowed
returns-in_err-end-clause-allowed c = no_value c.from_residual.result _ _ c.from_residual.ensures.1

pub returns-in_err-allowed-clause-auto : goal.returns-in_err-allowed-clause-auto
returns-in_err-allowed-clause-auto c = no_value c.from_residual-in_err-allowed.result _ _ c.from_residual-in_err-allowed.ensures.1

pub returns-in_err-allowed-clause-count : goal.returns-in_err-allowed-clause-count
returns-in_err-allowed-clause-count c = no_value c.from_residual-in_err-allowed.result _ _ c.from_residual-in_err-allowed.ensures.1

pub returns-in_err-allowed-clause-allowed : goal.returns-in_err-allowed-clause-allowed
returns-in_err-allowed-clause-allowed c = no_value c.from_residual-in_err-allowed.result _ _ c.from_residual-in_err-allowed.ensures.1
