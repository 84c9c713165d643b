use Rattle.tc_beh.proofs.Steps.{no_value}
use Rattle.tc_beh.proofs.open_sets.empty_places.Goals as goal

pub returns-in_err-zero-clause-count : goal.returns-in_err-zero-clause-count
returns-in_err-zero-clause-count c = no_value c.from_residual.result _ _ c.from_residual.ensures.1

pub returns-in_err-zero-clause-sets : goal.returns-in_err-zero-clause-sets
returns-in_err-zero-clause-sets c = no_value c.from_residual.result _ _ c.from_residual.ensures.1

pub returns-in_err-push-clause-count : goal.returns-in_err-push-clause-count
returns-in_err-push-clause-count c = no_value c.from_residual-in_err-push.result _ _ c.from_residual-in_err-push.ensures.1

pub returns-in_err-push-clause-sets : goal.returns-in_err-push-clause-sets
returns-in_err-push-clause-sets c = no_value c.from_residual-in_err-push.result _ _ c.from_residual-in_err-push.ensures.1
