use Rattle.std.proofs.Common.{◌≡◌, ◌⊎◌, Bor, List, [], ap, inl, inr, refl, ◌∙◌}
use Rattle.std.proofs.lemmas.List.{drop_all}
use Rattle.tc_alpha.specs.Views.{seen}
use Rattle.tc_model.specs.Views as see
use Rattle.tc_alpha.proofs.Steps.{all_found, alternative_moved, moved, nothing_found, nothing_left, path_in, step_moved, steps_in, test_in, test_step, tests_in, then_on_ok}
use Rattle.tc_model.specs.declared.sheet.Path.{out-Path}
use Rattle.tc_model.specs.declared.sheet.Step.{Step}
use Rattle.tc_model.specs.declared.sheet.Test.{Test}
use Rattle.tc_model.specs.declared.sheet.Test.TheVariants as v
use Rattle.tc_model.proofs.ViewsPath.{see_true, see_false, see_has, see_not, see_and, see_or}
use Rattle.tc_alpha.proofs.mentions.+paths.Goals as goal

pub mention_steps-loop-step-preserved : goal.mention_steps-loop-step-preserved
mention_steps-loop-step-preserved t c =
    step_moved c.args.steps.now c.loop-step.step-index _ (seen c.loop-step.found.items) (seen c.mention_node_test.new.found.items) (seen c.mention_test.new.found.items) _ c.loop-step-test.true
    c.in_ok-mention_node_test.ensures c.in_ok-mention_test.ensures c.loop-step.invariant

pub mention_path-loop-steps-preserved : goal.mention_path-loop-steps-preserved
mention_path-loop-steps-preserved t c =
    alternative_moved (out-Path c.args.path.now).alts.now c.loop-steps.steps-index _ (seen c.loop-steps.found.items) (seen c.mention_steps.new.found.items) _ c.loop-steps-test.true
    c.in_ok-mention_steps.ensures c.loop-steps.invariant

pub mention_tests-loop-test-preserved : goal.mention_tests-loop-test-preserved
mention_tests-loop-test-preserved t c =
    moved (seen c.loop-test.found.items) (seen c.mention_test.new.found.items) (test_in (see.test c.test-item.result)) _ _ _
    c.in_ok-mention_test.ensures (test_step c.args.tests.now c.loop-test.test-index c.test-item.result c.loop-test-test.true c.test-item.is) c.loop-test.invariant

pub mention_steps-loop-step-init : goal.mention_steps-loop-step-init
mention_steps-loop-step-init t c = refl

pub mention_steps-returns : goal.mention_steps-returns
mention_steps-returns t c =
    nothing_left (seen c.loop-step.found.items) _ _ (ap (λ (l : List Step). steps_in (see.steps l)) (drop_all c.loop-step.step-index c.args.steps.now c.loop-step-test.false)) c.loop-step.invariant

pub mention_path-returns : goal.mention_path-returns
mention_path-returns t c =
    nothing_left (seen c.loop-steps.found.items) _ _ (ap (λ (l : List (Bor (List Step))). path_in (see.alternatives l)) (drop_all c.loop-steps.steps-index (out-Path c.args.path.now).alts.now c.loop-steps-test.false)) c.loop-steps.invariant

pub mention_tests-loop-test-init : goal.mention_tests-loop-test-init
mention_tests-loop-test-init t c = refl

pub mention_tests-returns : goal.mention_tests-returns
mention_tests-returns t c =
    nothing_left (seen c.loop-test.found.items) _ _ (ap (λ (l : List Test). tests_in (see.tests l)) (drop_all c.loop-test.test-index c.args.tests.now c.loop-test-test.false)) c.loop-test.invariant

-- a test that mentions nothing, and one of several tests
says_nothing : (t : Test) → (t ≡ v.True) ⊎ (t ≡ v.False) → test_in (see.test t) ≡ []
says_nothing t (inl is) = ap (λ x. test_in (see.test x)) is ∙ ap test_in see_true
says_nothing t (inr is) = ap (λ x. test_in (see.test x)) is ∙ ap test_in see_false

of_several : (t : Test) (ts : Bor (List Test)) → (t ≡ v.And ts) ⊎ (t ≡ v.Or ts) → test_in (see.test t) ≡ tests_in (see.tests ts.now)
of_several t ts (inl is) = ap (λ x. test_in (see.test x)) is ∙ ap test_in (see_and ts)
of_several t ts (inr is) = ap (λ x. test_in (see.test x)) is ∙ ap test_in (see_or ts)

pub mention_test-returns-in-True : goal.mention_test-returns-in-True
mention_test-returns-in-True t c = nothing_found (seen c.args.found.now.items) _ (says_nothing c.args.test.now c.in-True.is)

pub mention_test-returns-in-Has : goal.mention_test-returns-in-Has
mention_test-returns-in-Has t c =
    then_on_ok c.mention_path.result _ _ (all_found (seen c.args.found.now.items) (seen c.mention_path.new.found.items) _ _ (ap test_in (ap see.test c.in-Has.is ∙ see_has c.in-Has.path))) c.mention_path.ensures

pub mention_test-returns-in-Not : goal.mention_test-returns-in-Not
mention_test-returns-in-Not t c =
    then_on_ok c.mention_test.result _ _ (all_found (seen c.args.found.now.items) (seen c.mention_test.new.found.items) _ _ (ap test_in (ap see.test c.in-Not.is ∙ see_not c.in-Not.test))) c.mention_test.ensures

pub mention_test-returns-in-And : goal.mention_test-returns-in-And
mention_test-returns-in-And t c =
    then_on_ok c.mention_tests.result _ _ (all_found (seen c.args.found.now.items) (seen c.mention_tests.new.found.items) _ _ (of_several c.args.test.now c.in-And.tests c.in-And.is)) c.mention_tests.ensures
