use Rattle.std.proofs.Common.{[], ◌∷◌, refl}
use Rattle.std.specs.Prelude.{codes}
use Rattle.tc_model.specs.Views.{name}
use Rattle.tc_sheet.proofs.Unrefused.{weighed_among}
use Rattle.tc_sheet.proofs.Refused.{handed_on}
use Rattle.tc_sheet.proofs.LeafLaws.{of_each_only, of_each_select}
use Rattle.tc_sheet.proofs.ReadLaws.{each_head}
use Rattle.tc_sheet.specs.Constructs.{of_each}
use Rattle.tc_sheet.proofs.Passed.{no_value}
use Rattle.tc_sheet.proofs.bodies.for_each.Goals as goal

pub only_attributes-requires-clause-weighed : goal.only_attributes-requires-clause-weighed
only_attributes-requires-clause-weighed c = weighed_among (name c.args.element.now.name) (codes "for-each") (codes "select" ∷ []) refl c.requires

pub returns-in_err-only_attributes-clause-no : goal.returns-in_err-only_attributes-clause-no
returns-in_err-only_attributes-clause-no c = handed_on _ c.from_residual.result c.in_err-only_attributes.field-0.0 c.from_residual.ensures.1 (of_each_only c.args.element.now c.in_err-only_attributes.field-0.0 c.requires c.in_err-only_attributes.ensures.no)

pub required_select-requires : goal.required_select-requires
required_select-requires c = of_each c.requires

pub returns-in_err-path-clause-no : goal.returns-in_err-path-clause-no
returns-in_err-path-clause-no c = handed_on _ c.from_residual-in_err-path.result c.in_err-path.field-0.0 c.from_residual-in_err-path.ensures.1 (of_each_select c.args.element.now c.in_err-path.field-0.0 c.requires c.in_err-path.ensures.no)

pub returns-clause-ok : goal.returns-clause-ok
returns-clause-ok c = each_head c.args.element.now c.in_ok-path.path c.in_ok-only_attributes.ensures.ok c.in_ok-path.ensures.ok

pub returns-in_err-only_attributes-clause-ok : goal.returns-in_err-only_attributes-clause-ok
returns-in_err-only_attributes-clause-ok c = no_value c.from_residual.result _ _ c.from_residual.ensures.1

pub returns-in_err-path-clause-ok : goal.returns-in_err-path-clause-ok
returns-in_err-path-clause-ok c = no_value c.from_residual-in_err-path.result _ _ c.from_residual-in_err-path.ensures.1

pub returns-clause-no : goal.returns-clause-no
returns-clause-no c = tt
