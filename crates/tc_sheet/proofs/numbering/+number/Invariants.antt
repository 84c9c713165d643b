use Rattle.std.proofs.Common.{◌≡◌, ◌+◌, drop}
use Rattle.tc_model.specs.Views as see
use Rattle.tc_model.specs.SheetTextTrees.{WrittenBranches}
use Rattle.tc_model.specs.SheetText.{eaches_in, eaches_in_branches, numbered, numbered_branches}
use Rattle.tc_model.proofs.ViewsBody.{body_then}
use Rattle.tc_sheet.specs.Views.{body, branches, branches_of}
use Rattle.tc_sheet.specs.SeenCalls.{names_seen}
use Rattle.tc_sheet.proofs.numbering.+number.Given as goal

abbrev pub invariant-numbered-loop-instruction : goal.invariant-numbered-loop-instruction
invariant-numbered-loop-instruction l = record {
  means : body_then (see.body l.found.items) (numbered (names_seen l.tables.modes.now) (names_seen l.tables.names.now) l.next (body (drop l.instruction-index l.body)))
      ≡ numbered (names_seen l.tables.modes.now) (names_seen l.tables.names.now) l.fn.next (body l.body);
  counted : l.next + eaches_in (body (drop l.instruction-index l.body)) ≡ l.fn.next + eaches_in (body l.body);
}

abbrev pub invariant-numbered_branches-loop-branch : goal.invariant-numbered_branches-loop-branch
invariant-numbered_branches-loop-branch l = record {
  means : (rest : WrittenBranches) → see.branches l.found.items (numbered_branches (names_seen l.tables.modes.now) (names_seen l.tables.names.now) l.next (branches (drop l.branch-index l.branches) rest))
      ≡ numbered_branches (names_seen l.tables.modes.now) (names_seen l.tables.names.now) l.fn.next (branches l.branches rest);
  counted : l.next + eaches_in_branches (branches_of (drop l.branch-index l.branches)) ≡ l.fn.next + eaches_in_branches (branches_of l.branches);
}
