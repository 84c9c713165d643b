use Rattle.std.proofs.Common.{◌≡◌, drop}
use Rattle.tc_model.specs.declared.sheet.Path.{out-Path}
use Rattle.tc_model.specs.Views as see
use Rattle.tc_model.specs.SameTests as same
use Rattle.tc_rules.proofs.same.+paths.Given as goal

abbrev pub invariant-same_path-loop-steps : goal.invariant-same_path-loop-steps
invariant-same_path-loop-steps l =
    (l.at ≡ l.steps-index)
    × (same.same_path (see.path l.fn.a) (see.path l.fn.b) ≡ same.same_path (see.alternatives (drop l.steps-index (out-Path l.fn.a).alts.now)) (see.alternatives (drop l.steps-index (out-Path l.fn.b).alts.now)))

abbrev pub invariant-same_steps-loop-step : goal.invariant-same_steps-loop-step
invariant-same_steps-loop-step l =
    (l.at ≡ l.step-index) × (same.same_steps (see.steps l.fn.a) (see.steps l.fn.b) ≡ same.same_steps (see.steps (drop l.step-index l.fn.a)) (see.steps (drop l.step-index l.fn.b)))

abbrev pub invariant-same_tests-loop-test : goal.invariant-same_tests-loop-test
invariant-same_tests-loop-test l =
    (l.at ≡ l.test-index) × (same.same_tests (see.tests l.fn.a) (see.tests l.fn.b) ≡ same.same_tests (see.tests (drop l.test-index l.fn.a)) (see.tests (drop l.test-index l.fn.b)))
