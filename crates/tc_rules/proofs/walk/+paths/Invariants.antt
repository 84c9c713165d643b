use Rattle.std.proofs.Common.{◌≡◌, ◌++◌, drop}
use Rattle.tc_model.specs.Numberings as n
use Rattle.tc_model.specs.Views as see
use Rattle.tc_rules.specs.Views.{predicates}
use Rattle.tc_rules.proofs.walk.+paths.Given as goal

abbrev pub invariant-predicates_in_path-loop-steps : goal.invariant-predicates_in_path-loop-steps
invariant-predicates_in_path-loop-steps l =
    predicates l.found.items ++ n.predicates_in_path (see.alternatives (drop l.steps-index l.steps-items))
    ≡ predicates l.initial.found.items ++ n.predicates_in_path (see.path l.path)

abbrev pub invariant-predicates_in_steps-loop-step : goal.invariant-predicates_in_steps-loop-step
invariant-predicates_in_steps-loop-step l =
    predicates l.found.items ++ n.predicates_in_steps (see.steps (drop l.step-index l.steps))
    ≡ predicates l.initial.found.items ++ n.predicates_in_steps (see.steps l.steps)

abbrev pub invariant-predicates_in_tests-loop-test : goal.invariant-predicates_in_tests-loop-test
invariant-predicates_in_tests-loop-test l =
    predicates l.found.items ++ n.predicates_in_tests (see.tests (drop l.test-index l.tests))
    ≡ predicates l.initial.found.items ++ n.predicates_in_tests (see.tests l.tests)
