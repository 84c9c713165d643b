use Rattle.tc_sheet.proofs.AttributeLaws.{has_here, none_end, none_step}
use Rattle.tc_sheet.proofs.attributes.xsl_attribute.Goals as goal

pub returns-then-is_xsl-clause-has : goal.returns-then-is_xsl-clause-has
returns-then-is_xsl-clause-has c = has_here c.args.element.now.attrs.now c.loop-attribute.attribute-index _ c.loop-attribute-test.true

pub loop-attribute-preserved : goal.loop-attribute-preserved
loop-attribute-preserved c = none_step c.args.element.now.attrs.now c.loop-attribute.attribute-index _ c.loop-attribute-test.true c.args.local.now c.if-is_xsl.ensures c.loop-attribute.invariant

pub returns-clause-none : goal.returns-clause-none
returns-clause-none c = none_end c.args.element.now.attrs.now c.loop-attribute.attribute-index c.loop-attribute-test.false c.args.local.now c.loop-attribute.invariant
