use Rattle.std.proofs.Common.{◌≡◌, max, drop}
use Rattle.tc_beh.specs.Heights.{height_in, height_in_branches}
use Rattle.tc_model.specs.Views as see
use Rattle.tc_model.specs.Sheets as s
use Rattle.tc_beh.proofs.calls.+heights.Given as goal

abbrev pub invariant-height-loop-instruction : goal.invariant-height-loop-instruction
invariant-height-loop-instruction l = max l.most (height_in l.heights (see.body (drop l.instruction-index l.body))) ≡ height_in l.heights (see.body l.body)

abbrev pub invariant-height_of_branches-loop-branch : goal.invariant-height_of_branches-loop-branch
invariant-height_of_branches-loop-branch l =
    (rest : s.Branches) → max l.most (height_in_branches l.heights (see.branches (drop l.branch-index l.branches) rest)) ≡ height_in_branches l.heights (see.branches l.branches rest)
