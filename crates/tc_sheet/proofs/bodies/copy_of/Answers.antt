use Rattle.std.proofs.Common.{[], ◌∷◌, refl}
use Rattle.std.specs.Prelude.{codes}
use Rattle.tc_model.specs.Views.{name}
use Rattle.tc_sheet.proofs.Unrefused.{weighed_among}
use Rattle.tc_sheet.proofs.Refused.{handed_on}
use Rattle.tc_sheet.proofs.LeafLaws.{of_copy_of_only, of_copy_of_select, of_copy_of_blank}
use Rattle.tc_sheet.proofs.ReadLaws.{copy_of_read}
use Rattle.tc_sheet.proofs.Passed.{no_value}
use Rattle.tc_sheet.proofs.bodies.copy_of.Goals as goal

pub only_attributes-requires-clause-weighed : goal.only_attributes-requires-clause-weighed
only_attributes-requires-clause-weighed c = weighed_among (name c.args.element.now.name) (codes "copy-of") (codes "select" ∷ []) refl c.requires

pub returns-in_err-only_attributes-clause-no : goal.returns-in_err-only_attributes-clause-no
returns-in_err-only_attributes-clause-no c = handed_on _ c.from_residual.result c.in_err-only_attributes.field-0.0 c.from_residual.ensures.1 (of_copy_of_only c.args.element.now c.in_err-only_attributes.field-0.0 c.requires c.in_err-only_attributes.ensures.no)

pub returns-in_err-required_attributes-clause-no : goal.returns-in_err-required_attributes-clause-no
returns-in_err-required_attributes-clause-no c = handed_on _ c.from_residual-in_err-required_attributes.result c.in_err-required_attributes.field-0.0 c.from_residual-in_err-required_attributes.ensures.1 (of_copy_of_select c.args.element.now c.in_err-required_attributes.field-0.0 c.requires c.in_err-required_attributes.ensures.no)

pub returns-in_err-check_blank-clause-no : goal.returns-in_err-check_blank-clause-no
returns-in_err-check_blank-clause-no c = handed_on _ c.from_residual-in_err-check_blank.result c.in_err-check_blank.field-0.0 c.from_residual-in_err-check_blank.ensures.1 (of_copy_of_blank c.args.element.now c.in_err-check_blank.field-0.0 c.requires c.in_err-check_blank.ensures.no)

pub returns-clause-ok : goal.returns-clause-ok
returns-clause-ok c = copy_of_read c.args.element.now c.in_ok-only_attributes.ensures.ok c.in_ok-required_attributes.ensures.ok c.in_ok-check_blank.ensures.ok

pub returns-in_err-only_attributes-clause-ok : goal.returns-in_err-only_attributes-clause-ok
returns-in_err-only_attributes-clause-ok c = no_value c.from_residual.result _ _ c.from_residual.ensures.1

pub returns-in_err-required_attributes-clause-ok : goal.returns-in_err-required_attributes-clause-ok
returns-in_err-required_attributes-clause-ok c = no_value c.from_residual-in_err-required_attributes.result _ _ c.from_residual-in_err-required_attributes.ensures.1

pub returns-in_err-check_blank-clause-ok : goal.returns-in_err-check_blank-clause-ok
returns-in_err-check_blank-clause-ok c = no_value c.from_residual-in_err-check_blank.result _ _ c.from_residual-in_err-check_blank.ensures.1

pub returns-clause-no : goal.returns-clause-no
returns-clause-no c = tt
