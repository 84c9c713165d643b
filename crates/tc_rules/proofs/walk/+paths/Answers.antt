use Rattle.std.proofs.Common.{◌≡◌, ◌⊎◌, ◌++◌, ◌∙◌, Bor, List, [], ap, inl, inr, refl, sym}
use Rattle.std.proofs.lemmas.List.{append-nil}
use Rattle.tc_model.proofs.ViewsPath.{see_true, see_false, see_has, see_not, see_and, see_or}
use Rattle.tc_model.specs.Numberings as n
use Rattle.tc_model.specs.Views as see
use Rattle.tc_model.specs.declared.sheet.Test.{Test}
use Rattle.tc_model.specs.declared.sheet.Test.TheVariants as v
use Rattle.tc_rules.specs.Views.{predicates}
use Rattle.tc_rules.proofs.Steps.{then_on_ok, moved, moved_twice, nothing_left, step_at, alternative_at, predicate_tests, no_step_left, no_alternative_left, no_test_left}
use Rattle.tc_rules.proofs.walk.+paths.Goals as goal

pub predicates_in_steps-loop-step-preserved : goal.predicates_in_steps-loop-step-preserved
predicates_in_steps-loop-step-preserved t c =
    moved_twice _ _ _ _ _ _ _ _ c.in_ok-add_predicate.ensures c.in_ok-predicates_in_test.ensures (step_at _ c.loop-step.step-index _ c.loop-step-test.true) c.loop-step.invariant

pub predicates_in_steps-returns : goal.predicates_in_steps-returns
predicates_in_steps-returns t c = nothing_left _ _ _ (no_step_left _ c.loop-step.step-index c.loop-step-test.false) c.loop-step.invariant

pub predicates_in_path-loop-steps-preserved : goal.predicates_in_path-loop-steps-preserved
predicates_in_path-loop-steps-preserved t c =
    moved _ _ _ _ _ _ c.in_ok-predicates_in_steps.ensures (alternative_at _ c.loop-steps.steps-index _ c.loop-steps-test.true) c.loop-steps.invariant

pub predicates_in_path-returns : goal.predicates_in_path-returns
predicates_in_path-returns t c = nothing_left _ _ _ (no_alternative_left _ c.loop-steps.steps-index c.loop-steps-test.false) c.loop-steps.invariant

pub predicates_in_tests-loop-test-preserved : goal.predicates_in_tests-loop-test-preserved
predicates_in_tests-loop-test-preserved t c =
    moved _ _ _ _ _ _ c.in_ok-predicates_in_test.ensures (predicate_tests _ c.loop-test.test-index _ c.loop-test-test.true c.test-item.is) c.loop-test.invariant

pub predicates_in_tests-returns : goal.predicates_in_tests-returns
predicates_in_tests-returns t c = nothing_left _ _ _ (no_test_left _ c.loop-test.test-index c.loop-test-test.false) c.loop-test.invariant

pub predicates_in_steps-loop-step-init : goal.predicates_in_steps-loop-step-init
predicates_in_steps-loop-step-init t c = refl

pub predicates_in_tests-loop-test-init : goal.predicates_in_tests-loop-test-init
predicates_in_tests-loop-test-init t c = refl

-- a test without predicates, and one of several tests
says_nothing : (t : Test) → (t ≡ v.True) ⊎ (t ≡ v.False) → n.predicates_in_test (see.test t) ≡ []
says_nothing t (inl is) = ap (λ x. n.predicates_in_test (see.test x)) is ∙ ap n.predicates_in_test see_true
says_nothing t (inr is) = ap (λ x. n.predicates_in_test (see.test x)) is ∙ ap n.predicates_in_test see_false

of_several : (t : Test) (ts : Bor (List Test)) → (t ≡ v.And ts) ⊎ (t ≡ v.Or ts) → n.predicates_in_test (see.test t) ≡ n.predicates_in_tests (see.tests ts.now)
of_several t ts (inl is) = ap (λ x. n.predicates_in_test (see.test x)) is ∙ ap n.predicates_in_test (see_and ts)
of_several t ts (inr is) = ap (λ x. n.predicates_in_test (see.test x)) is ∙ ap n.predicates_in_test (see_or ts)

pub predicates_in_test-returns-in-True : goal.predicates_in_test-returns-in-True
predicates_in_test-returns-in-True t c =
    let old = predicates c.args.found.now.items in
    sym (ap (λ w. old ++ w) (says_nothing c.args.test.now c.in-True.is) ∙ append-nil old)

pub predicates_in_test-returns-in-Has : goal.predicates_in_test-returns-in-Has
predicates_in_test-returns-in-Has t c =
    then_on_ok c.predicates_in_path.result _ _
    (λ put. put ∙ ap (λ w. predicates c.args.found.now.items ++ w) (sym (ap n.predicates_in_test (ap see.test c.in-Has.is ∙ see_has c.in-Has.path)))) c.predicates_in_path.ensures

pub predicates_in_test-returns-in-Not : goal.predicates_in_test-returns-in-Not
predicates_in_test-returns-in-Not t c =
    then_on_ok c.predicates_in_test.result _ _
    (λ put. put ∙ ap (λ w. predicates c.args.found.now.items ++ w) (sym (ap n.predicates_in_test (ap see.test c.in-Not.is ∙ see_not c.in-Not.test)))) c.predicates_in_test.ensures

pub predicates_in_test-returns-in-And : goal.predicates_in_test-returns-in-And
predicates_in_test-returns-in-And t c =
    then_on_ok c.predicates_in_tests.result _ _
    (λ put. put ∙ ap (λ w. predicates c.args.found.now.items ++ w) (sym (of_several c.args.test.now c.in-And.tests c.in-And.is))) c.predicates_in_tests.ensures
