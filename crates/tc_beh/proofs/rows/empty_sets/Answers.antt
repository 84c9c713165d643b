use Rattle.tc_beh.proofs.Steps.{no_value}
use Rattle.tc_beh.proofs.rows.empty_sets.Goals as goal

pub returns-in_err-zero-clause-count : goal.returns-in_err-zero-clause-count
returns-in_err-zero-clause-count c = no_value c.from_residual.result _ _ c.from_residual.ensures.1

pub returns-in_err-zero-clause-sizes : goal.returns-in_err-zero-clause-sizes
returns-in_err-zero-clause-sizes c = no_value c.from_residual.result _ _ c.from_residual.ensures.1

pub returns-in_err-push-clause-count : goal.returns-in_err-push-clause-count
returns-in_err-push-clause-count c = no_value c.from_residual-in_err-push.result _ _ c.from_residual-in_err-push.ensures.1

pub returns-in_err-push-clause-sizes : goal.returns-in_err-push-clause-sizes
returns-in_err-push-clause-sizes c = no_value c.from_residual-in_err-push.result _ _ c.from_residual-in_err-push.ensures.1
