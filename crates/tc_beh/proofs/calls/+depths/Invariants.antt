use Rattle.std.proofs.Common.{◌≡◌, max, drop}
use Rattle.tc_beh.specs.Heights.{depth_in, depth_in_branches}
use Rattle.tc_model.specs.Views as see
use Rattle.tc_model.specs.Sheets as s
use Rattle.tc_beh.proofs.calls.+depths.Given as goal

abbrev pub invariant-depth-loop-instruction : goal.invariant-depth-loop-instruction
invariant-depth-loop-instruction l = max l.most (depth_in (see.body (drop l.instruction-index l.body))) ≡ depth_in (see.body l.body)

abbrev pub invariant-depth_of_branches-loop-branch : goal.invariant-depth_of_branches-loop-branch
invariant-depth_of_branches-loop-branch l =
    (rest : s.Branches) → max l.most (depth_in_branches (see.branches (drop l.branch-index l.branches) rest)) ≡ depth_in_branches (see.branches l.branches rest)
