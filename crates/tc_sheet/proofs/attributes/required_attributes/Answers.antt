use Rattle.tc_sheet.specs.PathFaults.{path_fault_at}
use Rattle.std.proofs.Common.{MatchBool}
use Rattle.tc_model.specs.Views.{name, attribute}
use Rattle.tc_sheet.specs.Readings.{HasAttributesText}
use Rattle.std.proofs.Common.{subst, sym}
use Rattle.std.specs.Prelude.{codes}
use Rattle.tc_sheet.specs.Constructs as forms
use Rattle.tc_model.specs.PathText.{IsSelect, AttributesText}
use Rattle.tc_sheet.specs.Readings.{Refuses, alone, scope_of, HasNoAttributes}
use Rattle.tc_sheet.proofs.NameLaws.{attributes_refused, not_attributes}
use Rattle.tc_sheet.proofs.Missing.{select_missing}
use Rattle.tc_sheet.proofs.Refusals.{path_refused}
use Rattle.tc_sheet.specs.Constructs.{of_copy}
use Rattle.tc_sheet.proofs.Unrefused.{must_be_unrefused}
use Rattle.tc_sheet.proofs.attributes.required_attributes.Goals as goal

pub returns-in_default-clause-no : goal.returns-in_default-clause-no
returns-in_default-clause-no c = select_missing c.args.element.now (must_be_unrefused (name c.args.element.now.name) (of_copy c.requires)) c.in_default.ensures

pub returns-else-all-clause-no : goal.returns-else-all-clause-no
returns-else-all-clause-no c = not_attributes c.args.element.now c.in-Some.attribute.now c.requires c.in-Some.ensures c.in-Ok.ensures.select (subst (λ b. MatchBool b (AttributesText (scope_of c.args.element.now) (attribute c.in-Some.attribute.now).value) (AttributesText (scope_of c.args.element.now) (attribute c.in-Some.attribute.now).value → ⊥)) c.if-all.false c.in-Ok.ensures.ok)

pub returns-in-Err-clause-no : goal.returns-in-Err-clause-no
returns-in-Err-clause-no c = subst (λ w. Refuses w (alone c.args.element.now) (HasNoAttributes c.args.element.now (HasAttributesText (scope_of c.args.element.now)))) (sym c.fault_at.ensures) (attributes_refused c.args.element.now (path_fault_at c.in-Some.attribute.now.place c.in-Err.fault) (path_refused (IsSelect (scope_of c.args.element.now)) forms.select c.args.element.now (codes "select") c.in-Some.attribute.now (of_copy c.requires) c.in-Some.ensures (λ f. f) c.in-Err.fault c.in-Err.ensures.no c.in-Err.ensures.cause (λ v f. c.in-Err.ensures.renamed v f)))

pub returns-in_default-clause-ok : goal.returns-in_default-clause-ok
returns-in_default-clause-ok c = tt

pub returns-else-all-clause-ok : goal.returns-else-all-clause-ok
returns-else-all-clause-ok c = tt

pub returns-in-Err-clause-ok : goal.returns-in-Err-clause-ok
returns-in-Err-clause-ok c = tt
