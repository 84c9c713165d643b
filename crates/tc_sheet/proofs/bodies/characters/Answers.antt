use Rattle.std.proofs.lemmas.List.{at_drop_all}
use Rattle.std.specs.String.{string_bytes}
use Rattle.tc_model.specs.Views.{place, raw_trees}
use Rattle.tc_model.proofs.ViewsRaw.{left_elem, left_text}
use Rattle.tc_sheet.proofs.KidLaws.{one_more_text, element_no_characters, texts_end}
use Rattle.tc_sheet.proofs.bodies.characters.Goals as goal

pub returns-in-Elem-clause-no : goal.returns-in-Elem-clause-no
returns-in-Elem-clause-no c = element_no_characters c.loop-kid.invariant c.in-Elem.element (left_elem c.args.kids.now c.loop-kid.kid-index c.kid-item.result c.in-Elem.element c.loop-kid-test.true c.kid-item.is c.in-Elem.is) c.misplaced.result c.misplaced.ensures

pub loop-kid-preserved : goal.loop-kid-preserved
loop-kid-preserved c = one_more_text c.loop-kid.invariant c.in-Text.text.now (string_bytes c.push_str.new.self) (place c.in-Text.field-1) (left_text c.args.kids.now c.loop-kid.kid-index c.kid-item.result c.in-Text.text c.in-Text.field-1 c.loop-kid-test.true c.kid-item.is c.in-Text.is) c.in_ok-push_str-in-Text.ensures.bytes

pub returns-clause-ok : goal.returns-clause-ok
returns-clause-ok c = texts_end c.into_bump_str.result.now c.loop-kid.invariant (at_drop_all raw_trees c.args.kids.now c.loop-kid.kid-index c.loop-kid-test.false) c.into_bump_str.ensures

pub returns-in-Elem-clause-ok : goal.returns-in-Elem-clause-ok
returns-in-Elem-clause-ok c = tt

pub returns-clause-no : goal.returns-clause-no
returns-clause-no c = tt
