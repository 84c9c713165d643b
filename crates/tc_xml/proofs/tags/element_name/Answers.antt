use Rattle.std.proofs.Common.{sym}
use Rattle.tc_scan.specs.Views.{written_name}
use Rattle.tc_xml.specs.Tags.{in_scope}
use Rattle.tc_tags.proofs.FailedLaws.{failed_ok}
use Rattle.tc_xml.proofs.TagLaws.{bound_name, unbound_name}
use Rattle.tc_xml.proofs.tags.element_name.Goals as goal

pub returns-in-Some-clause-ok : goal.returns-in-Some-clause-ok
returns-in-Some-clause-ok c = bound_name (in_scope c.args.scope) (written_name c.args.name) c.in-Some.uri.now c.in_ok-local.local.now (sym c.in-Some.ensures) c.in_ok-local.ensures

pub returns-then-eq-clause-ok : goal.returns-then-eq-clause-ok
returns-then-eq-clause-ok c = unbound_name (in_scope c.args.scope) (written_name c.args.name) c.in_ok-local.local.now (sym c.if-eq.ensures) (sym c.in-None.ensures) c.in_ok-local.ensures

pub returns-in_err-local-clause-ok : goal.returns-in_err-local-clause-ok
returns-in_err-local-clause-ok c = failed_ok _ _ _ c.from_residual.ensures.1
