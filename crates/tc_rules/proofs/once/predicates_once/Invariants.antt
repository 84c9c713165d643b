use Rattle.std.proofs.Common.{◌≡◌, ◌≤◌, ◌++◌, drop, length}
use Rattle.tc_model.specs.Numbered.{each_once, each_once_after}
use Rattle.tc_model.specs.SameTests as same
use Rattle.tc_rules.specs.Views.{predicates}
use Rattle.tc_rules.proofs.once.predicates_once.Given as goal

abbrev pub invariant-loop-test : goal.invariant-loop-test
invariant-loop-test l =
    (each_once same.same_test (predicates l.found) ≡ predicates l.kept.items ++ each_once_after same.same_test (predicates l.kept.items) (predicates (drop l.test-index l.found)))
    × (length l.kept.items ≤ 6)
