use Rattle.std.proofs.Common.{◌≡◌, ◌+◌, drop}
use Rattle.tc_model.specs.SheetText.{eaches_in, eaches_in_branches}
use Rattle.tc_sheet.specs.Views.{body, branches_of}
use Rattle.tc_sheet.proofs.numbering.+eaches.Given as goal

abbrev pub invariant-eaches_in-loop-instruction : goal.invariant-eaches_in-loop-instruction
invariant-eaches_in-loop-instruction l = l.count + eaches_in (body (drop l.instruction-index l.body)) ≡ l.before + eaches_in (body l.body)

abbrev pub invariant-eaches_in_branches-loop-branch : goal.invariant-eaches_in_branches-loop-branch
invariant-eaches_in_branches-loop-branch l = l.count + eaches_in_branches (branches_of (drop l.branch-index l.branches)) ≡ l.before + eaches_in_branches (branches_of l.branches)
