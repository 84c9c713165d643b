use Rattle.std.proofs.Common.{inl, inr}
use Rattle.tc_sheet.proofs.Refused.{handed_on}
use Rattle.tc_sheet.proofs.TemplateLaws.{top_template, top_template_refuses, top_declaration, top_misplaced, top_other}
use Rattle.tc_sheet.proofs.Passed.{no_value}
use Rattle.tc_sheet.proofs.templates.element_at_top.Goals as goal

pub returns-in_err-template-clause-no : goal.returns-in_err-template-clause-no
returns-in_err-template-clause-no c = handed_on _ c.from_residual.result c.in_err-template.field-0.0 c.from_residual.ensures.1 (top_template_refuses c.args.element.now c.if-is_xsl.ensures c.in_err-template.field-0.0 c.in_err-template.ensures.no)

pub returns-then-is_xsl-clause-ok : goal.returns-then-is_xsl-clause-ok
returns-then-is_xsl-clause-ok c = top_template c.args.element.now c.in_ok-template.template c.in_ok-template.ensures.ok

pub returns-then-is_declaration-clause-ok : goal.returns-then-is_declaration-clause-ok
returns-then-is_declaration-clause-ok c = top_declaration c.args.element.now c.if-is_declaration.ensures

pub returns-then-is_xslt-clause-no : goal.returns-then-is_xslt-clause-no
returns-then-is_xslt-clause-no c = top_misplaced c.args.element.now c.if-is_xsl.ensures c.if-is_declaration.ensures (inl c.if-is_xslt.ensures) c.misplaced.result c.misplaced.ensures

pub returns-then-is_bare-clause-no : goal.returns-then-is_bare-clause-no
returns-then-is_bare-clause-no c = top_misplaced c.args.element.now c.if-is_xsl.ensures c.if-is_declaration.ensures (inr c.if-is_bare.ensures) c.misplaced-then-is_bare.result c.misplaced-then-is_bare.ensures

pub returns-clause-ok : goal.returns-clause-ok
returns-clause-ok c = top_other c.args.element.now c.if-is_xslt.ensures c.if-is_bare.ensures

pub returns-in_err-template-clause-ok : goal.returns-in_err-template-clause-ok
returns-in_err-template-clause-ok c = no_value c.from_residual.result _ _ c.from_residual.ensures.1

pub returns-then-is_xsl-clause-no : goal.returns-then-is_xsl-clause-no
returns-then-is_xsl-clause-no c = tt

pub returns-then-is_declaration-clause-no : goal.returns-then-is_declaration-clause-no
returns-then-is_declaration-clause-no c = tt

pub returns-then-is_xslt-clause-ok : goal.returns-then-is_xslt-clause-ok
returns-then-is_xslt-clause-ok c = tt

pub returns-then-is_bare-clause-ok : goal.returns-then-is_bare-clause-ok
returns-then-is_bare-clause-ok c = tt

pub returns-clause-no : goal.returns-clause-no
returns-clause-no c = tt
