use Rattle.std.proofs.Common.{[], ◌∷◌, refl}
use Rattle.std.specs.Prelude.{codes}
use Rattle.tc_model.specs.Views.{name}
use Rattle.tc_sheet.proofs.Unrefused.{weighed_among}
use Rattle.tc_sheet.proofs.Refused.{handed_on}
use Rattle.tc_sheet.proofs.LeafLaws.{of_element_only, of_element_name}
use Rattle.tc_sheet.proofs.ReadLaws.{element_head}
use Rattle.tc_sheet.proofs.Passed.{no_value}
use Rattle.tc_sheet.proofs.bodies.begin_element.Goals as goal

pub only_attributes-requires-clause-weighed : goal.only_attributes-requires-clause-weighed
only_attributes-requires-clause-weighed c = weighed_among (name c.args.element.now.name) (codes "element") (codes "name" ∷ []) refl c.requires

pub returns-in_err-only_attributes-clause-no : goal.returns-in_err-only_attributes-clause-no
returns-in_err-only_attributes-clause-no c = handed_on _ c.from_residual.result c.in_err-only_attributes.field-0.0 c.from_residual.ensures.1 (of_element_only c.args.element.now c.in_err-only_attributes.field-0.0 c.requires c.in_err-only_attributes.ensures.no)

pub returns-in_err-name-clause-no : goal.returns-in_err-name-clause-no
returns-in_err-name-clause-no c = handed_on _ c.from_residual-in_err-name.result c.in_err-name.field-0.0 c.from_residual-in_err-name.ensures.1 (of_element_name c.args.element.now c.in_err-name.field-0.0 c.requires c.in_err-name.ensures.no)

pub returns-clause-ok : goal.returns-clause-ok
returns-clause-ok c = element_head c.args.element.now c.in_ok-name.name c.in_ok-only_attributes.ensures.ok c.in_ok-name.ensures.ok

pub returns-in_err-only_attributes-clause-ok : goal.returns-in_err-only_attributes-clause-ok
returns-in_err-only_attributes-clause-ok c = no_value c.from_residual.result _ _ c.from_residual.ensures.1

pub returns-in_err-name-clause-ok : goal.returns-in_err-name-clause-ok
returns-in_err-name-clause-ok c = no_value c.from_residual-in_err-name.result _ _ c.from_residual-in_err-name.ensures.1

pub returns-clause-no : goal.returns-clause-no
returns-clause-no c = tt
