use Rattle.std.proofs.Common.{◌∙◌, ap, sym, subst, map, ◌++◌, append-nil}
use Rattle.std.specs.Option.{option_to_list}
use Rattle.tc_model.specs.Views.{attribute}
use Rattle.tc_model.specs.XmlTextScopes.{Expands, no_more}
use Rattle.tc_xml.specs.Tags.{in_scope}
use Rattle.tc_tags.proofs.FailedLaws.{failed_ok}
use Rattle.tc_xml.proofs.TagLaws.{all_more, no_expansion, err_breaks, blank_written}
use Rattle.tc_xml.proofs.tags.all_expanded.Goals as goal
use Rattle.tc_xml.proofs.tags.all_expanded.Goals.{in-Some+in_ok-push-in-Some, in-None}

pub loop-attribute-init : goal.loop-attribute-init
loop-attribute-init c = subst (λ w. Expands (in_scope c.args.scope) _ (map attribute w)) (sym c.new-found.ensures.items) no_more

pub returns-in_err-attr-clause-no : goal.returns-in_err-attr-clause-no
returns-in_err-attr-clause-no c =
    err_breaks c.from_residual.result c.in_err-attr.field-0.0 _ _ c.from_residual.ensures.1 c.in_err-attr.ensures.no
    (no_expansion (in_scope c.args.scope) c.args.attributes.now c.loop-attribute.attribute-index blank_written c.loop-attribute-test.true)

pub loop-attribute-preserved : goal.loop-attribute-preserved
loop-attribute-preserved c =
    let old = c.loop-attribute.found.items in
    let step = all_more (in_scope c.args.scope) c.args.attributes.now c.loop-attribute.attribute-index blank_written old c.match-branch-2.found.items c.in_ok-attr.field-0
    c.loop-attribute-test.true c.loop-attribute.invariant c.in_ok-attr.ensures.ok in
    elim c.match-branch-2.branch [
      | in-Some+in_ok-push-in-Some w ↦ step (ap (λ v. v.items) w.found-is ∙ (w.in_ok-push-in-Some.ensures.items ∙ ap (λ o. old ++ option_to_list o) (sym w.in-Some.is)))
      | in-None w ↦ step (ap (λ v. v.items) w.found-is ∙ (sym (append-nil old) ∙ ap (λ o. old ++ option_to_list o) (sym w.in-None.is)))
    ]

pub returns-in_err-attr-clause-ok : goal.returns-in_err-attr-clause-ok
returns-in_err-attr-clause-ok c = failed_ok _ _ _ c.from_residual.ensures.1
