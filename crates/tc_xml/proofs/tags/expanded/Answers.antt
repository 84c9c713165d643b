use Rattle.tc_xml.specs.Tags.{in_scope}
use Rattle.tc_xml.specs.Tags.{written}
use Rattle.tc_tags.proofs.FailedLaws.{failed_ok}
use Rattle.tc_xml.proofs.TagLaws.{expands_declaration, expands_attribute}
use Rattle.tc_xml.proofs.tags.expanded.Goals as goal

pub returns-then-is_lawful-clause-ok : goal.returns-then-is_lawful-clause-ok
returns-then-is_lawful-clause-ok c =
    expands_declaration (in_scope c.args.scope) (written c.args.attribute.now) c.in-Some.prefix.now c.in-Some.ensures.0 c.in-Some.ensures.1 c.if-is_lawful.ensures

pub returns-clause-ok : goal.returns-clause-ok
returns-clause-ok c =
    expands_attribute (in_scope c.args.scope) (written c.args.attribute.now) c.in-Some-attribute_uri.uri.now c.in_ok-local.local.now c.in_default.ensures c.in-Some-attribute_uri.ensures c.in_ok-local.ensures

pub returns-in_err-local-clause-ok : goal.returns-in_err-local-clause-ok
returns-in_err-local-clause-ok c = failed_ok _ _ _ c.from_residual.ensures.1
