use Rattle.tc_model.specs.Views.{attribute}
use Rattle.tc_model.specs.SheetTextPhrases.{NameText}
use Rattle.tc_sheet.specs.Readings.{scope_of}
use Rattle.tc_sheet.proofs.NameLaws.{optional_none, optional_some, optional_malformed}
use Rattle.tc_sheet.proofs.attributes.optional_name.Goals as goal

pub returns-in_default-clause-ok : goal.returns-in_default-clause-ok
returns-in_default-clause-ok c = optional_none (NameText (scope_of c.args.element.now)) c.args.element.now c.args.local.now c.in_default.ensures

pub returns-in-Some-name_of-clause-ok : goal.returns-in-Some-name_of-clause-ok
returns-in-Some-name_of-clause-ok c = optional_some (NameText (scope_of c.args.element.now)) c.in-Some.ensures c.in-Some-name_of.ensures

pub returns-in-None-clause-no : goal.returns-in-None-clause-no
returns-in-None-clause-no c =
    optional_malformed (NameText (scope_of c.args.element.now)) c.requires.kept c.in-Some.ensures c.in-None.ensures
    (λ why r. c.requires.unrefused (scope_of c.args.element.now) (attribute c.in-Some.attribute.now) why c.in-Some.ensures.name r)

pub returns-in_default-clause-no : goal.returns-in_default-clause-no
returns-in_default-clause-no c = tt

pub returns-in-Some-name_of-clause-no : goal.returns-in-Some-name_of-clause-no
returns-in-Some-name_of-clause-no c = tt

pub returns-in-None-clause-ok : goal.returns-in-None-clause-ok
returns-in-None-clause-ok c = tt
