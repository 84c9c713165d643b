use Rattle.std.proofs.Common.{◌≡◌, ◌+◌, drop}
use Rattle.tc_model.specs.Numbered.{number_of}
use Rattle.tc_model.specs.SameTests.{same_test}
use Rattle.tc_model.specs.Views as see
use Rattle.tc_rules.specs.Views.{predicates}
use Rattle.tc_rules.proofs.once.number_of_test.Given as goal

abbrev pub invariant-loop-i : goal.invariant-loop-i
invariant-loop-i l =
    number_of same_test (see.test l.test) (predicates l.numbered) ≡ number_of same_test (see.test l.test) (predicates (drop l.i l.numbered)) + l.i
