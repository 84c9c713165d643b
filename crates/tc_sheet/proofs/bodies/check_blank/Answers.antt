use Rattle.std.proofs.Common.{sym}
use Rattle.std.proofs.lemmas.List.{at_drop_all}
use Rattle.tc_model.specs.Views.{place, raw_trees}
use Rattle.tc_model.proofs.ViewsRaw.{left_elem, left_text}
use Rattle.tc_sheet.proofs.KidLaws.{past_blank_text, text_not_blank, element_not_blank, blank_ends}
use Rattle.tc_sheet.proofs.bodies.check_blank.Goals as goal

pub returns-then-not-is_white_space_only-clause-no : goal.returns-then-not-is_white_space_only-clause-no
returns-then-not-is_white_space_only-clause-no c = text_not_blank c.loop-kid.invariant c.in-Text.text.now (place c.in-Text.place) (left_text c.args.kids.now c.loop-kid.kid-index c.kid-item.result c.in-Text.text c.in-Text.place c.loop-kid-test.true c.kid-item.is c.in-Text.is) (sym c.if-not-is_white_space_only.ensures)

pub returns-in-Elem-clause-no : goal.returns-in-Elem-clause-no
returns-in-Elem-clause-no c = element_not_blank c.loop-kid.invariant c.in-Elem.element (left_elem c.args.kids.now c.loop-kid.kid-index c.kid-item.result c.in-Elem.element c.loop-kid-test.true c.kid-item.is c.in-Elem.is) c.misplaced.result c.misplaced.ensures

pub loop-kid-preserved : goal.loop-kid-preserved
loop-kid-preserved c = past_blank_text c.loop-kid.invariant c.in-Text.text.now (place c.in-Text.place) (left_text c.args.kids.now c.loop-kid.kid-index c.kid-item.result c.in-Text.text c.in-Text.place c.loop-kid-test.true c.kid-item.is c.in-Text.is) (sym c.if-not-is_white_space_only.ensures)

pub returns-clause-ok : goal.returns-clause-ok
returns-clause-ok c = blank_ends c.loop-kid.invariant (at_drop_all raw_trees c.args.kids.now c.loop-kid.kid-index c.loop-kid-test.false)

pub returns-then-not-is_white_space_only-clause-ok : goal.returns-then-not-is_white_space_only-clause-ok
returns-then-not-is_white_space_only-clause-ok c = tt

pub returns-in-Elem-clause-ok : goal.returns-in-Elem-clause-ok
returns-in-Elem-clause-ok c = tt

pub returns-clause-no : goal.returns-clause-no
returns-clause-no c = tt
