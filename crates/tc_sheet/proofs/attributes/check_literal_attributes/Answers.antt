use Rattle.tc_sheet.proofs.Refused.{handed_on}
use Rattle.tc_sheet.proofs.AttributeLaws.{has_here, literal_end, literal_step}
use Rattle.tc_sheet.proofs.attributes.check_literal_attributes.Goals as goal

pub check_literal_attribute-requires : goal.check_literal_attribute-requires
check_literal_attribute-requires c = record { literal = c.requires; has = has_here c.args.element.now.attrs.now c.loop-attribute.attribute-index _ c.loop-attribute-test.true }

pub returns-in_err-check_literal_attribute-clause-no : goal.returns-in_err-check_literal_attribute-clause-no
returns-in_err-check_literal_attribute-clause-no c = handed_on _ c.from_residual.result c.in_err-check_literal_attribute.field-0.0 c.from_residual.ensures.1 c.in_err-check_literal_attribute.ensures.no

pub loop-attribute-preserved : goal.loop-attribute-preserved
loop-attribute-preserved c = literal_step c.args.element.now.attrs.now c.loop-attribute.attribute-index _ c.loop-attribute-test.true c.in_ok-check_literal_attribute.ensures.ok c.loop-attribute.invariant

pub returns-clause-ok : goal.returns-clause-ok
returns-clause-ok c = literal_end c.args.element.now.attrs.now c.loop-attribute.attribute-index c.loop-attribute-test.false c.loop-attribute.invariant

pub returns-clause-no : goal.returns-clause-no
returns-clause-no c = tt
