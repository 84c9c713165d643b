use Rattle.std.proofs.Common.{◌≡◌, ◌++◌, drop}
use Rattle.tc_model.specs.Views as see
use Rattle.tc_beh.specs.AlikeSymbols.{asked_tests, tests_passed}
use Rattle.tc_beh.proofs.alike.add_passes.Given as goal

abbrev pub invariant-loop-one : goal.invariant-loop-one
invariant-loop-one l = l.key.items ++ tests_passed (asked_tests (drop l.one-index l.asked)) (see.name l.name) ≡ l.initial.key.items ++ tests_passed (asked_tests l.asked) (see.name l.name)
