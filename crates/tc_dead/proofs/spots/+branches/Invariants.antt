use Rattle.std.proofs.Common.{◌≡◌, ◌+◌, drop}
use Rattle.tc_model.specs.Views.{body}
use Rattle.tc_dead.specs.Spots.{branches_of, branches_in}
use Rattle.tc_dead.specs.Views.{open_branches}
use Rattle.tc_dead.proofs.spots.+branches.Given as goal

abbrev pub invariant-branches_of-loop-instruction : goal.invariant-branches_of-loop-instruction
invariant-branches_of-loop-instruction l = l.count + branches_of (body (drop l.instruction-index l.body)) ≡ l.before + branches_of (body l.body)

abbrev pub invariant-branches_in-loop-branch : goal.invariant-branches_in-loop-branch
invariant-branches_in-loop-branch l = l.count + branches_in (open_branches (drop l.branch-index l.branches)) ≡ l.before + branches_in (open_branches l.branches)
