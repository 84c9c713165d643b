use Rattle.std.proofs.Common.{◌≡◌, drop}
use Rattle.tc_model.specs.SheetText.{modes_in_body, modes_in_branches}
use Rattle.tc_sheet.specs.Views.{body, branches_of}
use Rattle.tc_sheet.specs.SeenCalls.{names_seen}
use Rattle.tc_sheet.specs.Tables.{puts}
use Rattle.tc_sheet.proofs.tables.+modes.Given as goal

abbrev pub invariant-put_modes-loop-instruction : goal.invariant-put_modes-loop-instruction
invariant-put_modes-loop-instruction l =
    puts (names_seen l.modes) (modes_in_body (body (drop l.instruction-index l.body))) ≡ puts (names_seen l.fn.modes) (modes_in_body (body l.body))

abbrev pub invariant-put_modes_of_branches-loop-branch : goal.invariant-put_modes_of_branches-loop-branch
invariant-put_modes_of_branches-loop-branch l =
    puts (names_seen l.modes) (modes_in_branches (branches_of (drop l.branch-index l.branches))) ≡ puts (names_seen l.fn.modes) (modes_in_branches (branches_of l.branches))
