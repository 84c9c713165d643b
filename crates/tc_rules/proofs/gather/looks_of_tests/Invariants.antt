use Rattle.std.proofs.Common.{◌≡◌, ◌++◌, drop, flat_map}
use Rattle.tc_model.specs.Numberings as n
use Rattle.tc_rules.specs.Views.{looks, predicates}
use Rattle.tc_rules.proofs.gather.looks_of_tests.Given as goal

abbrev pub invariant-loop-test : goal.invariant-loop-test
invariant-loop-test l =
    looks l.found.items ++ flat_map n.looks_in_test (predicates (drop l.test-index l.numbered)) ≡ looks l.initial.found.items ++ flat_map n.looks_in_test (predicates l.numbered)
