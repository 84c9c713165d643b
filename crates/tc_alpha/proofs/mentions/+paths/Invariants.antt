use Rattle.std.proofs.Common.{◌≡◌, ◌++◌, drop}
use Rattle.tc_alpha.specs.Views.{seen}
use Rattle.tc_model.specs.Views as see
use Rattle.tc_model.specs.Symbols.{in_path, in_steps, in_tests, mentions_of_name, mentions_of_test}
use Rattle.tc_alpha.proofs.mentions.+paths.Given as goal

abbrev pub invariant-mention_path-loop-steps : goal.invariant-mention_path-loop-steps
invariant-mention_path-loop-steps l =
    seen l.found.items ++ in_path mentions_of_test mentions_of_name (see.alternatives (drop l.steps-index l.steps-items))
    ≡ seen l.initial.found.items ++ in_path mentions_of_test mentions_of_name (see.path l.path)

abbrev pub invariant-mention_steps-loop-step : goal.invariant-mention_steps-loop-step
invariant-mention_steps-loop-step l =
    seen l.found.items ++ in_steps mentions_of_test mentions_of_name (see.steps (drop l.step-index l.steps))
    ≡ seen l.initial.found.items ++ in_steps mentions_of_test mentions_of_name (see.steps l.steps)

abbrev pub invariant-mention_tests-loop-test : goal.invariant-mention_tests-loop-test
invariant-mention_tests-loop-test l =
    seen l.found.items ++ in_tests mentions_of_test mentions_of_name (see.tests (drop l.test-index l.tests))
    ≡ seen l.initial.found.items ++ in_tests mentions_of_test mentions_of_name (see.tests l.tests)
