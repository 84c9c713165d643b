use Rattle.tc_model.specs.RawTrees.{none}
use Rattle.tc_sheet.specs.LookedAt.{at_top}
use Rattle.tc_sheet.proofs.Unrefused.{template_unrefused, weighed_among, never_refused}
use Rattle.tc_sheet.proofs.Refusals.{element_at}
use Rattle.tc_sheet.specs.Changes.{both}
use Rattle.tc_sheet.proofs.Refused.{handed_on}
use Rattle.tc_sheet.proofs.TemplateLaws.{template_only_refuses, template_pattern_refuses, template_priority_refuses, template_name_refuses, template_mode_refuses, template_body_refuses, template_incomplete, has_by, lacks_by, mode_with_pattern, pattern_or_name}
use Rattle.std.proofs.Common.{[], ◌∷◌, sym, refl, map, option_map}
use Rattle.std.specs.Prelude.{codes}
use Rattle.tc_model.specs.Views.{name}
use Rattle.tc_path.specs.Views.{alternative}
use Rattle.tc_sheet.proofs.Passed.{no_value}
use Rattle.tc_sheet.proofs.templates.template.Goals as goal

pub only_attributes-requires-clause-weighed : goal.only_attributes-requires-clause-weighed
only_attributes-requires-clause-weighed c = weighed_among (name c.args.element.now.name) (codes "template") (codes "match" ∷ codes "name" ∷ codes "priority" ∷ codes "mode" ∷ []) refl c.requires

pub optional_name-requires-clause-unrefused : goal.optional_name-requires-clause-unrefused
optional_name-requires-clause-unrefused c = never_refused (name c.args.element.now.name) (codes "template") (codes "name") c.requires refl refl refl refl

pub optional_name-requires-2-clause-unrefused : goal.optional_name-requires-2-clause-unrefused
optional_name-requires-2-clause-unrefused c = never_refused (name c.args.element.now.name) (codes "template") (codes "mode") c.requires refl refl refl refl

pub returns-in_err-only_attributes-clause-no : goal.returns-in_err-only_attributes-clause-no
returns-in_err-only_attributes-clause-no c = handed_on _ c.from_residual.result c.in_err-only_attributes.field-0.0 c.from_residual.ensures.1 (template_only_refuses c.args.element.now c.in_err-only_attributes.field-0.0 c.requires c.in_err-only_attributes.ensures.no)

pub returns-in_err-pattern-clause-no : goal.returns-in_err-pattern-clause-no
returns-in_err-pattern-clause-no c = handed_on _ c.from_residual-in_err-pattern.result c.in_err-pattern.field-0.0 c.from_residual-in_err-pattern.ensures.1 (template_pattern_refuses c.args.element.now c.in_err-pattern.field-0.0 c.requires c.in_err-pattern.ensures.no)

pub returns-in_err-priority-clause-no : goal.returns-in_err-priority-clause-no
returns-in_err-priority-clause-no c = handed_on _ c.from_residual-in_err-priority.result c.in_err-priority.field-0.0 c.from_residual-in_err-priority.ensures.1 (template_priority_refuses c.args.element.now c.in_err-priority.field-0.0 c.requires c.in_err-priority.ensures.no)

pub returns-in_err-name-clause-no : goal.returns-in_err-name-clause-no
returns-in_err-name-clause-no c = handed_on _ c.from_residual-in_err-name.result c.in_err-name.field-0.0 c.from_residual-in_err-name.ensures.1 (template_name_refuses c.args.element.now c.in_err-name.field-0.0 c.requires c.in_err-name.ensures.no)

pub returns-in_err-mode-clause-no : goal.returns-in_err-mode-clause-no
returns-in_err-mode-clause-no c = handed_on _ c.from_residual-in_err-mode.result c.in_err-mode.field-0.0 c.from_residual-in_err-mode.ensures.1 (template_mode_refuses c.args.element.now c.in_err-mode.field-0.0 c.requires c.in_err-mode.ensures.no)

pub returns-then-not-is_complete-clause-no : goal.returns-then-not-is_complete-clause-no
returns-then-not-is_complete-clause-no c = (element_at at_top c.args.element.now none (template_unrefused (name c.args.element.now.name) c.requires), template_incomplete (λ xs. map alternative xs.now) name c.args.element.now c.in_ok-pattern.pattern c.in_ok-name.name c.in_ok-mode.mode (lacks_by c.is_some.result c.is_some-2.result c.is_some-3.result c.in_ok-pattern.pattern c.in_ok-name.name c.in_ok-mode.mode c.is_some.ensures c.is_some-2.ensures c.is_some-3.ensures (sym c.if-not-is_complete.ensures)) c.in_ok-pattern.ensures.ok c.in_ok-name.ensures.ok c.in_ok-mode.ensures.ok both)

pub returns-in_err-body-clause-no : goal.returns-in_err-body-clause-no
returns-in_err-body-clause-no c = handed_on _ c.from_residual-in_err-body.result c.in_err-body.field-0.0 c.from_residual-in_err-body.ensures.1 (template_body_refuses c.args.element.now c.in_err-body.field-0.0 c.requires c.in_err-body.ensures)

pub returns-clause-ok : goal.returns-clause-ok
returns-clause-ok c =
    let has =
    has_by c.is_some.result c.is_some-2.result c.is_some-3.result c.in_ok-pattern.pattern c.in_ok-name.name c.in_ok-mode.mode c.is_some.ensures c.is_some-2.ensures c.is_some-3.ensures (sym c.if-not-is_complete.ensures) in
    record {
      alternatives = option_map (λ xs. map alternative xs.now) c.in_ok-pattern.pattern;
      priority = c.in_ok-priority.priority;
      is_template = record { name = c.requires; only = c.in_ok-only_attributes.ensures.ok };
      pattern = c.in_ok-pattern.ensures.ok;
      priorities = c.in_ok-priority.ensures.ok;
      kept = c.in_ok-alternatives.ensures.ok;
      name = c.in_ok-name.ensures.ok;
      mode = c.in_ok-mode.ensures.ok;
      pattern_or_name = pattern_or_name (λ xs. map alternative xs.now) name c.in_ok-pattern.pattern c.in_ok-name.name c.in_ok-mode.mode has;
      mode_with_pattern = mode_with_pattern (λ xs. map alternative xs.now) name c.in_ok-pattern.pattern c.in_ok-name.name c.in_ok-mode.mode has;
      body = c.in_ok-body.ensures;
      place = refl;
    }

pub returns-in_err-only_attributes-clause-ok : goal.returns-in_err-only_attributes-clause-ok
returns-in_err-only_attributes-clause-ok c = no_value c.from_residual.result _ _ c.from_residual.ensures.1

pub returns-in_err-pattern-clause-ok : goal.returns-in_err-pattern-clause-ok
returns-in_err-pattern-clause-ok c = no_value c.from_residual-in_err-pattern.result _ _ c.from_residual-in_err-pattern.ensures.1

pub returns-in_err-priority-clause-ok : goal.returns-in_err-priority-clause-ok
returns-in_err-priority-clause-ok c = no_value c.from_residual-in_err-priority.result _ _ c.from_residual-in_err-priority.ensures.1

pub returns-in_err-name-clause-ok : goal.returns-in_err-name-clause-ok
returns-in_err-name-clause-ok c = no_value c.from_residual-in_err-name.result _ _ c.from_residual-in_err-name.ensures.1

pub returns-in_err-mode-clause-ok : goal.returns-in_err-mode-clause-ok
returns-in_err-mode-clause-ok c = no_value c.from_residual-in_err-mode.result _ _ c.from_residual-in_err-mode.ensures.1

pub returns-in_err-body-clause-ok : goal.returns-in_err-body-clause-ok
returns-in_err-body-clause-ok c = no_value c.from_residual-in_err-body.result _ _ c.from_residual-in_err-body.ensures.1

pub returns-in_err-alternatives-clause-ok : goal.returns-in_err-alternatives-clause-ok
returns-in_err-alternatives-clause-ok c = no_value c.from_residual-in_err-alternatives.result _ _ c.from_residual-in_err-alternatives.ensures.1

pub returns-then-not-is_complete-clause-ok : goal.returns-then-not-is_complete-clause-ok
returns-then-not-is_complete-clause-ok c = tt

pub returns-clause-no : goal.returns-clause-no
returns-clause-no c = tt
