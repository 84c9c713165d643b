use Rattle.std.proofs.Common.{map}
use Rattle.tc_sheet.proofs.Refused.{handed_on}
use Rattle.tc_sheet.proofs.AttributeLaws.{has_here, only_end, only_step}
use Rattle.tc_sheet.proofs.attributes.only_attributes.Goals as goal

pub check_attribute-requires-clause-own : goal.check_attribute-requires-clause-own
check_attribute-requires-clause-own c = record { xslt = c.requires.xslt; has = has_here c.args.element.now.attrs.now c.loop-attribute.attribute-index _ c.loop-attribute-test.true }

pub returns-in_err-check_attribute-clause-no : goal.returns-in_err-check_attribute-clause-no
returns-in_err-check_attribute-clause-no c = handed_on _ c.from_residual.result c.in_err-check_attribute.field-0.0 c.from_residual.ensures.1 c.in_err-check_attribute.ensures.no

pub loop-attribute-preserved : goal.loop-attribute-preserved
loop-attribute-preserved c = only_step c.args.element.now.attrs.now c.loop-attribute.attribute-index _ c.loop-attribute-test.true (map (λ w. w.now) c.args.locals.now) c.in_ok-check_attribute.ensures.ok c.loop-attribute.invariant

pub returns-clause-ok : goal.returns-clause-ok
returns-clause-ok c = only_end c.args.element.now.attrs.now c.loop-attribute.attribute-index c.loop-attribute-test.false (map (λ w. w.now) c.args.locals.now) c.loop-attribute.invariant
