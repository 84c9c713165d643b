use Rattle.tc_sheet.proofs.Unrefused.{weighed_among, never_refused}
use Rattle.tc_sheet.proofs.Refused.{handed_on}
use Rattle.tc_sheet.proofs.LeafLaws.{of_apply_only, of_apply_select, of_apply_mode, of_apply_blank}
use Rattle.tc_sheet.proofs.ReadLaws.{apply_read}
use Rattle.tc_sheet.specs.Constructs.{of_apply}
use Rattle.std.proofs.Common.{[], ◌∷◌, refl, option_map}
use Rattle.std.specs.Prelude.{codes}
use Rattle.tc_model.specs.Views.{name, path}
use Rattle.tc_sheet.proofs.Passed.{no_value}
use Rattle.tc_sheet.proofs.bodies.apply_templates.Goals as goal

pub only_attributes-requires-clause-weighed : goal.only_attributes-requires-clause-weighed
only_attributes-requires-clause-weighed c = weighed_among (name c.args.element.now.name) (codes "apply-templates") (codes "select" ∷ codes "mode" ∷ []) refl c.requires

pub optional_name-requires-clause-unrefused : goal.optional_name-requires-clause-unrefused
optional_name-requires-clause-unrefused c = never_refused (name c.args.element.now.name) (codes "apply-templates") (codes "mode") c.requires refl refl refl refl

pub returns-in_err-only_attributes-clause-no : goal.returns-in_err-only_attributes-clause-no
returns-in_err-only_attributes-clause-no c = handed_on _ c.from_residual.result c.in_err-only_attributes.field-0.0 c.from_residual.ensures.1 (of_apply_only c.args.element.now c.in_err-only_attributes.field-0.0 c.requires c.in_err-only_attributes.ensures.no)

pub optional_select-requires : goal.optional_select-requires
optional_select-requires c = of_apply c.requires

pub returns-in_err-path-clause-no : goal.returns-in_err-path-clause-no
returns-in_err-path-clause-no c = handed_on _ c.from_residual-in_err-path.result c.in_err-path.field-0.0 c.from_residual-in_err-path.ensures.1 (of_apply_select c.args.element.now c.in_err-path.field-0.0 c.requires c.in_err-path.ensures.no)

pub returns-in_err-mode-clause-no : goal.returns-in_err-mode-clause-no
returns-in_err-mode-clause-no c = handed_on _ c.from_residual-in_err-mode.result c.in_err-mode.field-0.0 c.from_residual-in_err-mode.ensures.1 (of_apply_mode c.args.element.now c.in_err-mode.field-0.0 c.requires c.in_err-mode.ensures.no)

pub returns-in_err-check_blank-clause-no : goal.returns-in_err-check_blank-clause-no
returns-in_err-check_blank-clause-no c = handed_on _ c.from_residual-in_err-check_blank.result c.in_err-check_blank.field-0.0 c.from_residual-in_err-check_blank.ensures.1 (of_apply_blank c.args.element.now c.in_err-check_blank.field-0.0 c.requires c.in_err-check_blank.ensures.no)

pub returns-clause-ok : goal.returns-clause-ok
returns-clause-ok c = apply_read c.args.element.now (option_map path c.in_ok-path.path) c.or_all_children.result c.in_ok-mode.mode c.in_ok-only_attributes.ensures.ok c.in_ok-path.ensures.ok c.in_ok-mode.ensures.ok c.in_ok-check_blank.ensures.ok c.or_all_children.ensures

pub returns-in_err-only_attributes-clause-ok : goal.returns-in_err-only_attributes-clause-ok
returns-in_err-only_attributes-clause-ok c = no_value c.from_residual.result _ _ c.from_residual.ensures.1

pub returns-in_err-path-clause-ok : goal.returns-in_err-path-clause-ok
returns-in_err-path-clause-ok c = no_value c.from_residual-in_err-path.result _ _ c.from_residual-in_err-path.ensures.1

pub returns-in_err-mode-clause-ok : goal.returns-in_err-mode-clause-ok
returns-in_err-mode-clause-ok c = no_value c.from_residual-in_err-mode.result _ _ c.from_residual-in_err-mode.ensures.1

pub returns-in_err-check_blank-clause-ok : goal.returns-in_err-check_blank-clause-ok
returns-in_err-check_blank-clause-ok c = no_value c.from_residual-in_err-check_blank.result _ _ c.from_residual-in_err-check_blank.ensures.1

pub returns-clause-no : goal.returns-clause-no
returns-clause-no c = tt
