use Rattle.std.proofs.Common.{◌≡◌, ◌++◌, drop}
use Rattle.tc_model.specs.Numberings as n
use Rattle.tc_model.specs.Views as see
use Rattle.tc_rules.specs.Views.{looks}
use Rattle.tc_rules.proofs.walk.+look_tests.Given as goal

abbrev pub invariant-looks_in_tests-loop-test : goal.invariant-looks_in_tests-loop-test
invariant-looks_in_tests-loop-test l =
    looks l.found.items ++ n.looks_in_tests (see.tests (drop l.test-index l.tests))
    ≡ looks l.initial.found.items ++ n.looks_in_tests (see.tests l.tests)
