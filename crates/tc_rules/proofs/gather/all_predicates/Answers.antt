use Rattle.std.proofs.Common.{List, refl, ◌∙◌, ◌++◌, ap, flat_map, subst}
use Rattle.std.specs.Borrow.{Bor}
use Rattle.std.proofs.lemmas.Result.{IfOk-from_err}
use Rattle.tc_model.specs.Numbered.{each_once}
use Rattle.tc_model.specs.SameTests.{same_test}
use Rattle.tc_model.specs.Sheets as s
use Rattle.tc_model.specs.declared.sheet.Test.{Test}
use Rattle.tc_rules.specs.Faults.{IsPredicatesCause}
use Rattle.tc_rules.specs.Usages.{predicates_in_usage}
use Rattle.tc_rules.specs.Views.{predicates, usage, usages}
use Rattle.tc_rules.proofs.Distinct.{then_if_err}
use Rattle.tc_rules.proofs.JobsOf.{then_if_ok}
use Rattle.tc_rules.proofs.Steps.{told_item, told_all}
use Rattle.tc_rules.proofs.UsagesOf.{predicates_are}
use Rattle.tc_rules.proofs.gather.all_predicates.Goals as goal

pub loop-usage-init : goal.loop-usage-init
loop-usage-init c = refl

pub loop-usage-preserved : goal.loop-usage-preserved
loop-usage-preserved c =
    told_item predicates_in_usage usage (predicates c.loop-usage.found.items) (predicates c.predicates_in_usage.new.found.items) _ c.args.used.now c.loop-usage.usage-index c.usage-item.result c.loop-usage-test.true c.usage-item.is
    c.in_ok-predicates_in_usage.ensures c.loop-usage.invariant

pub returns-clause-predicates : goal.returns-clause-predicates
returns-clause-predicates c =
    then_if_ok c.predicates_once.result _ _
    (λ v h x e.
    h ∙ (ap (λ (ts : List (Bor Test)). each_once same_test (predicates ts)) c.deref.ensures.value
    ∙ (ap (each_once same_test) (told_all predicates_in_usage usage (predicates c.loop-usage.found.items) _ c.args.used.now c.loop-usage.usage-index c.loop-usage-test.false c.loop-usage.invariant
    ∙ ap (λ (ts : List (Bor Test)). predicates ts ++ flat_map predicates_in_usage (usages c.args.used.now)) c.new-found.ensures.items)
    ∙ predicates_are x (usages c.args.used.now) e)))
    c.predicates_once.ensures.kept

pub returns-clause-few : goal.returns-clause-few
returns-clause-few c = c.predicates_once.ensures.few

pub returns-clause-cause : goal.returns-clause-cause
returns-clause-cause c =
    then_if_err c.predicates_once.result _ _
    (λ f h x e.
    subst (λ (ts : List s.Test). IsPredicatesCause ts f)
    (ap (λ (ts : List (Bor Test)). each_once same_test (predicates ts)) c.deref.ensures.value
    ∙ (ap (each_once same_test) (told_all predicates_in_usage usage (predicates c.loop-usage.found.items) _ c.args.used.now c.loop-usage.usage-index c.loop-usage-test.false c.loop-usage.invariant
    ∙ ap (λ (ts : List (Bor Test)). predicates ts ++ flat_map predicates_in_usage (usages c.args.used.now)) c.new-found.ensures.items)
    ∙ predicates_are x (usages c.args.used.now) e))
    h)
    c.predicates_once.ensures.cause

pub returns-in_err-predicates_in_usage-clause-predicates : goal.returns-in_err-predicates_in_usage-clause-predicates
returns-in_err-predicates_in_usage-clause-predicates c = IfOk-from_err c.from_residual.result _ c.from_residual.ensures.0

pub returns-in_err-predicates_in_usage-clause-few : goal.returns-in_err-predicates_in_usage-clause-few
returns-in_err-predicates_in_usage-clause-few c = IfOk-from_err c.from_residual.result _ c.from_residual.ensures.0
