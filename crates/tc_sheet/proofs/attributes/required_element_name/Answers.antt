use Rattle.std.proofs.Common.{refl, ap}
use Rattle.std.specs.Prelude.{codes}
use Rattle.tc_model.specs.Views.{name, attribute}
use Rattle.tc_model.specs.SheetTextPhrases.{instruction_of, i_element, ElementNameText}
use Rattle.tc_sheet.proofs.Missing.{required_missing}
use Rattle.tc_sheet.specs.Readings.{scope_of}
use Rattle.tc_sheet.proofs.NameLaws.{required_one, required_malformed, required_unsupported, computed_name, no_brace}
use Rattle.tc_sheet.proofs.Unrefused.{instruction_unrefused, name_unrefused}
use Rattle.tc_sheet.proofs.attributes.required_element_name.Goals as goal

pub returns-in_default-clause-no : goal.returns-in_default-clause-no
returns-in_default-clause-no c = required_missing c.args.element.now (codes "name") (ElementNameText (scope_of c.args.element.now)) (instruction_unrefused (name c.args.element.now.name) i_element (ap instruction_of c.requires)) c.in_default.ensures

pub returns-in-Some-element_name_of-clause-ok : goal.returns-in-Some-element_name_of-clause-ok
returns-in-Some-element_name_of-clause-ok c = required_one (ElementNameText (scope_of c.args.element.now)) c.in-Some.ensures c.in-Some-element_name_of.ensures

pub returns-in-None-clause-no : goal.returns-in-None-clause-no
returns-in-None-clause-no c = required_unsupported (ElementNameText (scope_of c.args.element.now)) refl c.in-Some.ensures c.in-None.ensures (computed_name c.args.element.now c.in-Some.attribute.now c.requires c.in-Some.ensures c.if-has_brace.ensures)

pub returns-in-None-2-clause-no : goal.returns-in-None-2-clause-no
returns-in-None-2-clause-no c =
    required_malformed (ElementNameText (scope_of c.args.element.now)) refl c.in-Some.ensures c.in-None-2.ensures
    (name_unrefused (name c.args.element.now.name) (scope_of c.args.element.now) (attribute c.in-Some.attribute.now) c.requires c.in-Some.ensures.name (no_brace (attribute c.in-Some.attribute.now).value c.if-has_brace.ensures))
