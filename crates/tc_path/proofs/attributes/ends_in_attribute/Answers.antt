use Rattle.tc_path.specs.Scopes.{in_scope}
use Rattle.tc_path.proofs.AttributeLoops.{told_so}
use Rattle.tc_path.proofs.Refusals.{failed_ok}
use Rattle.tc_path.proofs.attributes.ends_in_attribute.Goals as goal

pub returns-clause-ok : goal.returns-clause-ok
returns-clause-ok c = told_so (in_scope c.args.scope.now) c.is_other_node-other.result c.ends_so.result c.in_ok-form.ensures.0 c.is_other_node-other.ensures c.ends_so.ensures

pub returns-in_err-form-clause-ok : goal.returns-in_err-form-clause-ok
returns-in_err-form-clause-ok c = failed_ok c.from_residual.result _ _ c.from_residual.ensures.1

pub returns-in_err-form-clause-shorter : goal.returns-in_err-form-clause-shorter
returns-in_err-form-clause-shorter c = failed_ok c.from_residual.result _ _ c.from_residual.ensures.1

pub returns-clause-shorter : goal.returns-clause-shorter
returns-clause-shorter c = c.in_ok-form.ensures.1
