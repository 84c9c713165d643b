use Rattle.std.proofs.Common.{subst, sym}
use Rattle.std.specs.Prelude.{codes}
use Rattle.tc_sheet.specs.Constructs as forms
use Rattle.tc_model.specs.PathText.{SelectText, IsSelect}
use Rattle.tc_sheet.specs.Readings.{Refuses, alone, scope_of, HasNoOptional}
use Rattle.tc_sheet.proofs.NameLaws.{optional_none, optional_some}
use Rattle.tc_sheet.proofs.Refusals.{path_refused_optional}
use Rattle.tc_sheet.specs.Constructs.{of_match}
use Rattle.tc_sheet.proofs.attributes.optional_select.Goals as goal

pub returns-in_default-clause-ok : goal.returns-in_default-clause-ok
returns-in_default-clause-ok c = optional_none (SelectText (scope_of c.args.element.now)) c.args.element.now (codes "select") c.in_default.ensures

pub returns-in-Ok-clause-ok : goal.returns-in-Ok-clause-ok
returns-in-Ok-clause-ok c = optional_some (SelectText (scope_of c.args.element.now)) c.in-Some.ensures c.in-Ok.ensures.ok

pub returns-in-Err-clause-no : goal.returns-in-Err-clause-no
returns-in-Err-clause-no c = subst (λ w. Refuses w (alone c.args.element.now) (HasNoOptional c.args.element.now (codes "select") (SelectText (scope_of c.args.element.now)))) (sym c.fault_at.ensures) (path_refused_optional (IsSelect (scope_of c.args.element.now)) forms.select c.args.element.now (codes "select") c.in-Some.attribute.now c.requires c.in-Some.ensures (λ f. f) c.in-Err.fault c.in-Err.ensures.no c.in-Err.ensures.cause (λ v f. c.in-Err.ensures.renamed v f))

pub returns-in_default-clause-no : goal.returns-in_default-clause-no
returns-in_default-clause-no c = tt

pub returns-in-Ok-clause-no : goal.returns-in-Ok-clause-no
returns-in-Ok-clause-no c = tt

pub returns-in-Err-clause-ok : goal.returns-in-Err-clause-ok
returns-in-Err-clause-ok c = tt
