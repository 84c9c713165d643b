use Rattle.std.proofs.Common.{ap}
use Rattle.std.proofs.lemmas.List.{drop_all}
use Rattle.tc_model.specs.Views as see
use Rattle.tc_beh.specs.AlikeSymbols.{seen}
use Rattle.tc_model.specs.declared.sheet.Path.{out-Path}
use Rattle.tc_beh.proofs.TestSteps.{alternative_moved, ended, moved, step_moved, test_step, steps_in, test_in, tests_in}
use Rattle.tc_beh.proofs.node_tests.+paths.Goals as goal

pub add_steps-returns : goal.add_steps-returns
add_steps-returns t c = ended (seen c.loop-step.found.items) _ _ c.loop-step.invariant (ap (λ l. steps_in (see.steps l)) (drop_all c.loop-step.step-index c.args.steps.now c.loop-step-test.false))

pub add_tests-loop-test-preserved : goal.add_tests-loop-test-preserved
add_tests-loop-test-preserved t c =
    let x = c.test-item.result in
    moved (seen c.loop-test.found.items) (seen c.add_test.new.found.items) (test_in (see.test x)) _ _ _
    c.in_ok-add_test.ensures (test_step c.args.tests.now c.loop-test.test-index x c.loop-test-test.true c.test-item.is) c.loop-test.invariant

pub add_tests-returns : goal.add_tests-returns
add_tests-returns t c = ended (seen c.loop-test.found.items) _ _ c.loop-test.invariant (ap (λ l. tests_in (see.tests l)) (drop_all c.loop-test.test-index c.args.tests.now c.loop-test-test.false))

pub add_steps-loop-step-preserved : goal.add_steps-loop-step-preserved
add_steps-loop-step-preserved t c =
    step_moved c.args.steps.now c.loop-step.step-index _ (seen c.loop-step.found.items) (seen c.add.new.found.items) (seen c.add_test.new.found.items) _ c.loop-step-test.true
    c.in_ok-add.ensures c.in_ok-add_test.ensures c.loop-step.invariant

pub add_path-loop-steps-preserved : goal.add_path-loop-steps-preserved
add_path-loop-steps-preserved t c =
    alternative_moved (out-Path c.args.path.now).alts.now c.loop-steps.steps-index _ (seen c.loop-steps.found.items) (seen c.add_steps.new.found.items) _ c.loop-steps-test.true
    c.in_ok-add_steps.ensures c.loop-steps.invariant
