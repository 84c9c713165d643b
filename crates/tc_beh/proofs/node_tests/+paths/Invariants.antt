use Rattle.std.proofs.Common.{◌≡◌, ◌++◌, drop}
use Rattle.tc_beh.specs.AlikeSymbols.{seen, itself, no_test_of}
use Rattle.tc_model.specs.Views as see
use Rattle.tc_model.specs.Symbols.{in_path, in_steps, in_tests}
use Rattle.tc_beh.proofs.node_tests.+paths.Given as goal

abbrev pub invariant-add_path-loop-steps : goal.invariant-add_path-loop-steps
invariant-add_path-loop-steps l =
    seen l.found.items ++ in_path itself no_test_of (see.alternatives (drop l.steps-index l.steps-items))
    ≡ seen l.initial.found.items ++ in_path itself no_test_of (see.path l.path)

abbrev pub invariant-add_steps-loop-step : goal.invariant-add_steps-loop-step
invariant-add_steps-loop-step l =
    seen l.found.items ++ in_steps itself no_test_of (see.steps (drop l.step-index l.steps))
    ≡ seen l.initial.found.items ++ in_steps itself no_test_of (see.steps l.steps)

abbrev pub invariant-add_tests-loop-test : goal.invariant-add_tests-loop-test
invariant-add_tests-loop-test l =
    seen l.found.items ++ in_tests itself no_test_of (see.tests (drop l.test-index l.tests))
    ≡ seen l.initial.found.items ++ in_tests itself no_test_of (see.tests l.tests)
