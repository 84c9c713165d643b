use Rattle.std.proofs.Common.{◌≡◌, ◌++◌, drop}
use Rattle.tc_beh.specs.AlikeSymbols.{seen, itself, no_test_of}
use Rattle.tc_model.specs.Views as see
use Rattle.tc_model.specs.Sheets as s
use Rattle.tc_model.specs.Symbols.{in_body, in_branches}
use Rattle.tc_beh.proofs.node_tests.+bodies.Given as goal

abbrev pub invariant-add_body-loop-instruction : goal.invariant-add_body-loop-instruction
invariant-add_body-loop-instruction l =
    seen l.found.items ++ in_body itself no_test_of (see.body (drop l.instruction-index l.body))
    ≡ seen l.initial.found.items ++ in_body itself no_test_of (see.body l.body)

abbrev pub invariant-add_branches-loop-branch : goal.invariant-add_branches-loop-branch
invariant-add_branches-loop-branch l =
    (rest : s.Branches)
    → seen l.found.items ++ in_branches itself no_test_of (see.branches (drop l.branch-index l.branches) rest)
    ≡ seen l.initial.found.items ++ in_branches itself no_test_of (see.branches l.branches rest)
