use Rattle.std.proofs.Common.{subst, sym}
use Rattle.std.specs.Prelude.{codes}
use Rattle.tc_sheet.specs.Constructs as forms
use Rattle.tc_model.specs.Views.{name}
use Rattle.tc_model.specs.PathText.{ValueText, IsValue}
use Rattle.tc_sheet.proofs.Missing.{required_missing}
use Rattle.tc_sheet.specs.Readings.{Refuses, alone, scope_of, HasNoRequired}
use Rattle.tc_sheet.proofs.NameLaws.{required_one}
use Rattle.tc_sheet.proofs.Refusals.{path_refused}
use Rattle.tc_sheet.proofs.Unrefused.{must_be_unrefused}
use Rattle.tc_sheet.proofs.attributes.required_value.Goals as goal

pub returns-in_default-clause-no : goal.returns-in_default-clause-no
returns-in_default-clause-no c = required_missing c.args.element.now (codes "select") (ValueText (scope_of c.args.element.now)) (must_be_unrefused (name c.args.element.now.name) c.requires) c.in_default.ensures

pub returns-in-Ok-clause-ok : goal.returns-in-Ok-clause-ok
returns-in-Ok-clause-ok c = required_one (ValueText (scope_of c.args.element.now)) c.in-Some.ensures c.in-Ok.ensures.ok

pub returns-in-Err-clause-no : goal.returns-in-Err-clause-no
returns-in-Err-clause-no c = subst (λ w. Refuses w (alone c.args.element.now) (HasNoRequired c.args.element.now (codes "select") (ValueText (scope_of c.args.element.now)))) (sym c.fault_at.ensures) (path_refused (IsValue (scope_of c.args.element.now)) forms.value c.args.element.now (codes "select") c.in-Some.attribute.now c.requires c.in-Some.ensures (λ f. f) c.in-Err.fault c.in-Err.ensures.no c.in-Err.ensures.cause (λ v f. c.in-Err.ensures.renamed v f))

pub returns-in_default-clause-ok : goal.returns-in_default-clause-ok
returns-in_default-clause-ok c = tt

pub returns-in-Ok-clause-no : goal.returns-in-Ok-clause-no
returns-in-Ok-clause-no c = tt

pub returns-in-Err-clause-ok : goal.returns-in-Err-clause-ok
returns-in-Err-clause-ok c = tt
