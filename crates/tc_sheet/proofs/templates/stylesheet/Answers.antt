use Rattle.std.proofs.Common.{[], ◌∷◌, refl}
use Rattle.std.specs.Prelude.{codes}
use Rattle.tc_model.specs.Views.{name}
use Rattle.tc_sheet.proofs.Refused.{handed_on}
use Rattle.tc_sheet.proofs.TemplateLaws.{root_only_refuses, root_version_refuses, no_call, stylesheet_ok, stylesheet_no, stylesheet_calls}
use Rattle.tc_sheet.specs.Readings.{alone}
use Rattle.tc_sheet.proofs.Unrefused.{root_weighed_among}
use Rattle.tc_sheet.proofs.Passed.{no_value}
use Rattle.tc_sheet.proofs.templates.stylesheet.Goals as goal

pub only_attributes-requires-clause-weighed : goal.only_attributes-requires-clause-weighed
only_attributes-requires-clause-weighed c = root_weighed_among (name c.args.element.now.name) (codes "version" ∷ codes "exclude-result-prefixes" ∷ codes "id" ∷ []) refl c.if-not-is_root.ensures

pub returns-in_err-only_attributes-clause-no : goal.returns-in_err-only_attributes-clause-no
returns-in_err-only_attributes-clause-no c = handed_on _ c.from_residual.result c.in_err-only_attributes.field-0.0 c.from_residual.ensures.1 (root_only_refuses c.args.element.now c.if-not-is_root.ensures c.in_err-only_attributes.field-0.0 c.in_err-only_attributes.ensures.no)

pub returns-in_err-only_attributes-clause-calls : goal.returns-in_err-only_attributes-clause-calls
returns-in_err-only_attributes-clause-calls c = handed_on _ c.from_residual.result c.in_err-only_attributes.field-0.0 c.from_residual.ensures.1 (no_call (alone c.args.element.now) _ c.in_err-only_attributes.field-0.0 c.in_err-only_attributes.ensures.no)

pub returns-in_err-check_version-clause-no : goal.returns-in_err-check_version-clause-no
returns-in_err-check_version-clause-no c = handed_on _ c.from_residual-in_err-check_version.result c.in_err-check_version.field-0.0 c.from_residual-in_err-check_version.ensures.1 (root_version_refuses c.args.element.now c.if-not-is_root.ensures c.in_err-check_version.field-0.0 c.in_err-check_version.ensures.no)

pub returns-in_err-check_version-clause-calls : goal.returns-in_err-check_version-clause-calls
returns-in_err-check_version-clause-calls c = handed_on _ c.from_residual-in_err-check_version.result c.in_err-check_version.field-0.0 c.from_residual-in_err-check_version.ensures.1 (no_call (alone c.args.element.now) _ c.in_err-check_version.field-0.0 c.in_err-check_version.ensures.no)

pub returns-clause-ok : goal.returns-clause-ok
returns-clause-ok c = stylesheet_ok c.args.element.now c.templates.result c.if-not-is_root.ensures c.in_ok-only_attributes.ensures.ok c.in_ok-check_version.ensures.ok c.templates.ensures.ok

pub returns-clause-no : goal.returns-clause-no
returns-clause-no c = stylesheet_no c.args.element.now c.if-not-is_root.ensures c.templates.result c.templates.ensures.no

pub returns-clause-calls : goal.returns-clause-calls
returns-clause-calls c = stylesheet_calls c.args.element.now c.templates.result c.templates.ensures.no

pub returns-in_err-only_attributes-clause-ok : goal.returns-in_err-only_attributes-clause-ok
returns-in_err-only_attributes-clause-ok c = no_value c.from_residual.result _ _ c.from_residual.ensures.1

pub returns-in_err-check_version-clause-ok : goal.returns-in_err-check_version-clause-ok
returns-in_err-check_version-clause-ok c = no_value c.from_residual-in_err-check_version.result _ _ c.from_residual-in_err-check_version.ensures.1
