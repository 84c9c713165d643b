use Rattle.tc_tags.proofs.FailedLaws.{no_value}
use Rattle.tc_tags.proofs.scopes.Scopes.new.Goals as goal

pub returns-in_err-declared-clause-declared : goal.returns-in_err-declared-clause-declared
returns-in_err-declared-clause-declared c = no_value c.from_residual.result _ _ c.from_residual.ensures.1

pub returns-in_err-declared-clause-chains : goal.returns-in_err-declared-clause-chains
returns-in_err-declared-clause-chains c = no_value c.from_residual.result _ _ c.from_residual.ensures.1

pub returns-in_err-chains-clause-declared : goal.returns-in_err-chains-clause-declared
returns-in_err-chains-clause-declared c = no_value c.from_residual-in_err-chains.result _ _ c.from_residual-in_err-chains.ensures.1

pub returns-in_err-chains-clause-chains : goal.returns-in_err-chains-clause-chains
returns-in_err-chains-clause-chains c = no_value c.from_residual-in_err-chains.result _ _ c.from_residual-in_err-chains.ensures.1
