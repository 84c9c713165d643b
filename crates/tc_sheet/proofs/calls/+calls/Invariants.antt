use Rattle.std.proofs.Common.{◌≡◌, ◌++◌, drop, map}
use Rattle.tc_model.specs.SheetText.{calls_in_body, calls_in_branches}
use Rattle.tc_sheet.specs.Views.{body, branches_of}
use Rattle.tc_sheet.specs.SeenCalls.{site}
use Rattle.tc_sheet.proofs.calls.+calls.Given as goal

abbrev pub invariant-put_calls-loop-instruction : goal.invariant-put_calls-loop-instruction
invariant-put_calls-loop-instruction l =
    map site l.sites.items ++ calls_in_body (body (drop l.instruction-index l.body)) ≡ map site l.fn.sites.items ++ calls_in_body (body l.body)

abbrev pub invariant-put_calls_of_branches-loop-branch : goal.invariant-put_calls_of_branches-loop-branch
invariant-put_calls_of_branches-loop-branch l =
    map site l.sites.items ++ calls_in_branches (branches_of (drop l.branch-index l.branches)) ≡ map site l.fn.sites.items ++ calls_in_branches (branches_of l.branches)
