use Rattle.std.proofs.Common.{ap, ◌∙◌, sym}
use Rattle.tc_model.specs.Views.{place, raw_before}
use Rattle.tc_model.specs.declared.tree.Raw.{Raw}
use Rattle.tc_model.proofs.ViewsRaw.{before_elem, before_text}
use Rattle.tc_sheet.proofs.TemplateLaws.{top_white, top_black, top_ok, top_no}
use Rattle.tc_sheet.proofs.templates.at_top.Goals as goal

pub returns-then-is_white_space_only-clause-ok : goal.returns-then-is_white_space_only-clause-ok
returns-then-is_white_space_only-clause-ok c = top_white c.args.kid.now c.in-Text.text.now (place c.in-Text.place) (λ rest. ap (λ (y : Raw). raw_before y rest) c.in-Text.is ∙ before_text c.in-Text.text c.in-Text.place rest) (sym c.if-is_white_space_only.ensures)

pub returns-else-is_white_space_only-clause-no : goal.returns-else-is_white_space_only-clause-no
returns-else-is_white_space_only-clause-no c = top_black c.args.kid.now c.in-Text.text.now (place c.in-Text.place) (λ rest. ap (λ (y : Raw). raw_before y rest) c.in-Text.is ∙ before_text c.in-Text.text c.in-Text.place rest) (sym c.if-is_white_space_only.ensures)

pub returns-in-Elem-clause-ok : goal.returns-in-Elem-clause-ok
returns-in-Elem-clause-ok c = top_ok c.args.kid.now c.in-Elem.element (λ rest. ap (λ (y : Raw). raw_before y rest) c.in-Elem.is ∙ before_elem c.in-Elem.element rest) c.element_at_top.result c.element_at_top.ensures.ok

pub returns-in-Elem-clause-no : goal.returns-in-Elem-clause-no
returns-in-Elem-clause-no c = top_no c.args.kid.now c.in-Elem.element (λ rest. ap (λ (y : Raw). raw_before y rest) c.in-Elem.is ∙ before_elem c.in-Elem.element rest) c.element_at_top.result c.element_at_top.ensures.no

pub returns-then-is_white_space_only-clause-no : goal.returns-then-is_white_space_only-clause-no
returns-then-is_white_space_only-clause-no c = tt

pub returns-else-is_white_space_only-clause-ok : goal.returns-else-is_white_space_only-clause-ok
returns-else-is_white_space_only-clause-ok c = tt
