use Rattle.std.proofs.Common.{refl, ap}
use Rattle.std.specs.Prelude.{codes}
use Rattle.tc_model.specs.Views.{name, attribute}
use Rattle.tc_model.specs.SheetTextPhrases.{instruction_of, i_call, NameText}
use Rattle.tc_sheet.proofs.Missing.{required_missing}
use Rattle.tc_sheet.specs.Readings.{scope_of}
use Rattle.tc_sheet.proofs.NameLaws.{required_one, required_malformed}
use Rattle.tc_sheet.proofs.Unrefused.{instruction_unrefused, never_refused}
use Rattle.tc_sheet.proofs.attributes.required_name.Goals as goal

pub returns-in_default-clause-no : goal.returns-in_default-clause-no
returns-in_default-clause-no c = required_missing c.args.element.now (codes "name") (NameText (scope_of c.args.element.now)) (instruction_unrefused (name c.args.element.now.name) i_call (ap instruction_of c.requires)) c.in_default.ensures

pub returns-in-Some-name_of-clause-ok : goal.returns-in-Some-name_of-clause-ok
returns-in-Some-name_of-clause-ok c = required_one (NameText (scope_of c.args.element.now)) c.in-Some.ensures c.in-Some-name_of.ensures

pub returns-in-None-clause-no : goal.returns-in-None-clause-no
returns-in-None-clause-no c =
    required_malformed (NameText (scope_of c.args.element.now)) refl c.in-Some.ensures c.in-None.ensures
    (λ why r. never_refused (name c.args.element.now.name) (codes "call-template") (codes "name") c.requires refl refl refl tt (scope_of c.args.element.now) (attribute c.in-Some.attribute.now) why c.in-Some.ensures.name r)
