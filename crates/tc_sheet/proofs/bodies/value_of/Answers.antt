use Rattle.std.proofs.Common.{[], ◌∷◌, refl}
use Rattle.std.specs.Prelude.{codes}
use Rattle.tc_model.specs.Views.{name}
use Rattle.tc_sheet.proofs.Unrefused.{weighed_among}
use Rattle.tc_sheet.proofs.Refused.{handed_on}
use Rattle.tc_sheet.proofs.LeafLaws.{of_value_only, of_value_select, of_value_blank}
use Rattle.tc_sheet.proofs.ReadLaws.{path_read, self_read}
use Rattle.tc_sheet.specs.Constructs.{of_value}
use Rattle.tc_sheet.proofs.Passed.{no_value}
use Rattle.tc_sheet.proofs.bodies.value_of.Goals as goal

pub only_attributes-requires-clause-weighed : goal.only_attributes-requires-clause-weighed
only_attributes-requires-clause-weighed c = weighed_among (name c.args.element.now.name) (codes "value-of") (codes "select" ∷ []) refl c.requires

pub returns-in_err-only_attributes-clause-no : goal.returns-in_err-only_attributes-clause-no
returns-in_err-only_attributes-clause-no c = handed_on _ c.from_residual.result c.in_err-only_attributes.field-0.0 c.from_residual.ensures.1 (of_value_only c.args.element.now c.in_err-only_attributes.field-0.0 c.requires c.in_err-only_attributes.ensures.no)

pub required_value-requires : goal.required_value-requires
required_value-requires c = of_value c.requires

pub returns-in_err-value-clause-no : goal.returns-in_err-value-clause-no
returns-in_err-value-clause-no c = handed_on _ c.from_residual-in_err-value.result c.in_err-value.field-0.0 c.from_residual-in_err-value.ensures.1 (of_value_select c.args.element.now c.in_err-value.field-0.0 c.requires c.in_err-value.ensures.no)

pub returns-in_err-check_blank-clause-no : goal.returns-in_err-check_blank-clause-no
returns-in_err-check_blank-clause-no c = handed_on _ c.from_residual-in_err-check_blank.result c.in_err-check_blank.field-0.0 c.from_residual-in_err-check_blank.ensures.1 (of_value_blank c.args.element.now c.in_err-check_blank.field-0.0 c.requires c.in_err-check_blank.ensures.no)

pub returns-in-ValueOf-clause-ok : goal.returns-in-ValueOf-clause-ok
returns-in-ValueOf-clause-ok c = path_read c.args.element.now c.in_ok-value.value c.in-ValueOf.path c.in-ValueOf.is c.in_ok-only_attributes.ensures.ok c.in_ok-value.ensures.ok c.in_ok-check_blank.ensures.ok

pub returns-in_default : goal.returns-in_default
returns-in_default c = record { ok = self_read c.args.element.now c.in_ok-value.value c.in_default.not-ValueOf c.in_ok-only_attributes.ensures.ok c.in_ok-value.ensures.ok c.in_ok-check_blank.ensures.ok; no = tt }

pub returns-in_err-only_attributes-clause-ok : goal.returns-in_err-only_attributes-clause-ok
returns-in_err-only_attributes-clause-ok c = no_value c.from_residual.result _ _ c.from_residual.ensures.1

pub returns-in_err-value-clause-ok : goal.returns-in_err-value-clause-ok
returns-in_err-value-clause-ok c = no_value c.from_residual-in_err-value.result _ _ c.from_residual-in_err-value.ensures.1

pub returns-in_err-check_blank-clause-ok : goal.returns-in_err-check_blank-clause-ok
returns-in_err-check_blank-clause-ok c = no_value c.from_residual-in_err-check_blank.result _ _ c.from_residual-in_err-check_blank.ensures.1

pub returns-in-ValueOf-clause-no : goal.returns-in-ValueOf-clause-no
returns-in-ValueOf-clause-no c = tt
