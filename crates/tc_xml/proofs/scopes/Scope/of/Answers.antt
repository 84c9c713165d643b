use Rattle.std.proofs.Common.{sym}
use Rattle.tc_tags.proofs.FailedLaws.{failed_ok}
use Rattle.tc_xml.proofs.scopes.Scope.of.Goals as goal

pub invariant_of-result : goal.invariant_of-result
invariant_of-result c = record { same = sym c.in_ok-bindings.ensures.ok }

pub returns-in_err-bindings-clause-ok : goal.returns-in_err-bindings-clause-ok
returns-in_err-bindings-clause-ok c = failed_ok _ _ _ c.from_residual-in_err-bindings.ensures.1

pub returns-in_err-names-clause-ok : goal.returns-in_err-names-clause-ok
returns-in_err-names-clause-ok c = failed_ok _ _ _ c.from_residual.ensures.1
