use Rattle.std.proofs.Common.{◌≡◌, ◌++◌, drop}
use Rattle.tc_beh.specs.Callees.{callees_in, callees_in_branches}
use Rattle.tc_model.specs.Views as see
use Rattle.tc_model.specs.Sheets as s
use Rattle.tc_beh.proofs.calls.+callees.Given as goal

abbrev pub invariant-put_callees-loop-instruction : goal.invariant-put_callees-loop-instruction
invariant-put_callees-loop-instruction l =
    l.found.items ++ callees_in (see.body (drop l.instruction-index l.body)) ≡ l.initial.found.items ++ callees_in (see.body l.body)

abbrev pub invariant-put_callees_of_branches-loop-branch : goal.invariant-put_callees_of_branches-loop-branch
invariant-put_callees_of_branches-loop-branch l =
    (rest : s.Branches)
    → l.found.items ++ callees_in_branches (see.branches (drop l.branch-index l.branches) rest) ≡ l.initial.found.items ++ callees_in_branches (see.branches l.branches rest)
