use Rattle.std.proofs.Common.{◌≡◌, ◌+◌, ◌∙◌, Bool, ap, refl, sym}
use Rattle.tc_model.proofs.ViewsPath.{see_true, see_has, see_not}
use Rattle.tc_model.specs.SameTests.{same_test}
use Rattle.tc_model.specs.Sheets.{Test as TestOf}
use Rattle.tc_model.specs.Views as see
use Rattle.tc_model.specs.declared.sheet.Test.{Test}
use Rattle.tc_rules.proofs.Compared.{steps_differ, steps_kept, steps_broken, steps_over, alternatives_differ, alternatives_kept, alternatives_broken, alternatives_over, tests_differ, tests_kept, tests_broken, tests_over}
use Rattle.tc_rules.proofs.same.+paths.Goals as goal

pub same_steps-returns-then-a-b : goal.same_steps-returns-then-a-b
same_steps-returns-then-a-b t c = sym (steps_differ c.args.a.now c.args.b.now c.if-a-b.true)

pub same_steps-loop-step-preserved : goal.same_steps-loop-step-preserved
same_steps-loop-step-preserved t c = (ap (λ n. n + 1) c.loop-step.invariant.0, steps_kept c.args.a.now c.args.b.now c.loop-step.step-index c.loop-step.at _ _ c.same_step.result _ c.loop-step.invariant.0 c.loop-step-test.true c.if-a-b.false c.same_step.ensures c.loop-step.invariant.1 c.if-not-same_step.false)

pub same_steps-returns-then-not-same_step : goal.same_steps-returns-then-not-same_step
same_steps-returns-then-not-same_step t c = steps_broken c.args.a.now c.args.b.now c.loop-step.step-index c.loop-step.at _ _ c.same_step.result _ c.loop-step.invariant.0 c.loop-step-test.true c.if-a-b.false c.same_step.ensures c.loop-step.invariant.1 c.if-not-same_step.true

pub same_steps-returns : goal.same_steps-returns
same_steps-returns t c = sym (c.loop-step.invariant.1 ∙ steps_over c.args.a.now c.args.b.now c.loop-step.step-index c.loop-step-test.false c.if-a-b.false)

pub same_path-returns-then-a-b : goal.same_path-returns-then-a-b
same_path-returns-then-a-b t c = sym (alternatives_differ _ _ c.if-a-b.true)

pub same_path-loop-steps-preserved : goal.same_path-loop-steps-preserved
same_path-loop-steps-preserved t c = (ap (λ n. n + 1) c.loop-steps.invariant.0, alternatives_kept _ _ c.loop-steps.steps-index c.loop-steps.at _ _ c.same_steps.result _ c.loop-steps.invariant.0 c.loop-steps-test.true c.if-a-b.false c.same_steps.ensures c.loop-steps.invariant.1 c.if-not-same_steps.false)

pub same_path-returns-then-not-same_steps : goal.same_path-returns-then-not-same_steps
same_path-returns-then-not-same_steps t c = alternatives_broken _ _ c.loop-steps.steps-index c.loop-steps.at _ _ c.same_steps.result _ c.loop-steps.invariant.0 c.loop-steps-test.true c.if-a-b.false c.same_steps.ensures c.loop-steps.invariant.1 c.if-not-same_steps.true

pub same_path-returns : goal.same_path-returns
same_path-returns t c = sym (c.loop-steps.invariant.1 ∙ alternatives_over _ _ c.loop-steps.steps-index c.loop-steps-test.false c.if-a-b.false)

pub same_tests-returns-then-a-b : goal.same_tests-returns-then-a-b
same_tests-returns-then-a-b t c = sym (tests_differ c.args.a.now c.args.b.now c.if-a-b.true)

pub same_tests-loop-test-preserved : goal.same_tests-loop-test-preserved
same_tests-loop-test-preserved t c = (ap (λ n. n + 1) c.loop-test.invariant.0, tests_kept c.args.a.now c.args.b.now c.loop-test.test-index c.loop-test.at c.test-item.result c.index-b-at.result c.same_test.result _ c.loop-test.invariant.0 c.loop-test-test.true c.if-a-b.false c.test-item.is c.index-b-at.is c.same_test.ensures c.loop-test.invariant.1 c.if-not-same_test.false)

pub same_tests-returns-then-not-same_test : goal.same_tests-returns-then-not-same_test
same_tests-returns-then-not-same_test t c = tests_broken c.args.a.now c.args.b.now c.loop-test.test-index c.loop-test.at c.test-item.result c.index-b-at.result c.same_test.result _ c.loop-test.invariant.0 c.loop-test-test.true c.if-a-b.false c.test-item.is c.index-b-at.is c.same_test.ensures c.loop-test.invariant.1 c.if-not-same_test.true

pub same_tests-returns : goal.same_tests-returns
same_tests-returns t c = sym (c.loop-test.invariant.1 ∙ tests_over c.args.a.now c.args.b.now c.loop-test.test-index c.loop-test-test.false c.if-a-b.false)

-- two tests, seen as plain data
seen : (a b : Test) (x y : TestOf) (r : Bool) → see.test a ≡ x → see.test b ≡ y → r ≡ same_test x y → r ≡ same_test (see.test a) (see.test b)
seen a b x y r e f g = g ∙ (ap (λ t. same_test t y) (sym e) ∙ ap (λ u. same_test (see.test a) u) (sym f))

pub same_test-returns-in-True-True : goal.same_test-returns-in-True-True
same_test-returns-in-True-True t c = seen c.args.a.now c.args.b.now _ _ _ (ap see.test c.in-True-True.is-0 ∙ see_true) (ap see.test c.in-True-True.is-1 ∙ see_true) refl

pub same_test-returns-in-Has-Has : goal.same_test-returns-in-Has-Has
same_test-returns-in-Has-Has t c = seen c.args.a.now c.args.b.now _ _ _ (ap see.test c.in-Has-Has.is-0 ∙ see_has c.in-Has-Has.p) (ap see.test c.in-Has-Has.is-1 ∙ see_has c.in-Has-Has.q) c.same_path.ensures

pub same_test-returns-in-Not-Not : goal.same_test-returns-in-Not-Not
same_test-returns-in-Not-Not t c = seen c.args.a.now c.args.b.now _ _ _ (ap see.test c.in-Not-Not.is-0 ∙ see_not c.in-Not-Not.t) (ap see.test c.in-Not-Not.is-1 ∙ see_not c.in-Not-Not.u) c.same_test.ensures
