use Rattle.std.proofs.Common.{◌≡◌, ◌+◌, drop}
use Rattle.tc_model.specs.Sheets.{Body, Branches}
use Rattle.tc_model.specs.Views.{body, branches}
use Rattle.tc_dead.specs.Spots.{branches_of, branches_in, eaches_of, eaches_in}
use Rattle.tc_dead.specs.Marked as m
use Rattle.tc_dead.specs.Views.{seen, placed, open_branches}
use Rattle.tc_dead.proofs.marking.+mark.Given as goal

abbrev pub invariant-put_all-loop-instruction : goal.invariant-put_all-loop-instruction
invariant-put_all-loop-instruction l = record {
  means : (rest : Body) → placed l.found.items (m.marked_before (seen l.marker.spot) l.next.branch l.next.each (body (drop l.instruction-index l.body)) rest)
      ≡ placed l.fn.found.items (m.marked_before (seen l.marker.spot) l.fn.next.branch l.fn.next.each (body l.body) rest);
  branches_counted : l.next.branch + branches_of (body (drop l.instruction-index l.body)) ≡ l.fn.next.branch + branches_of (body l.body);
  eaches_counted : l.next.each + eaches_of (body (drop l.instruction-index l.body)) ≡ l.fn.next.each + eaches_of (body l.body);
}

abbrev pub invariant-marked_branches-loop-branch : goal.invariant-marked_branches-loop-branch
invariant-marked_branches-loop-branch l = record {
  means : (rest : Branches) → branches l.found.items (m.marked_branches (seen l.marker.spot) l.next.branch l.next.each (branches (drop l.branch-index l.branches) rest))
      ≡ m.marked_branches (seen l.marker.spot) l.fn.next.branch l.fn.next.each (branches l.branches rest);
  branches_counted : l.next.branch + branches_in (open_branches (drop l.branch-index l.branches)) ≡ l.fn.next.branch + branches_in (open_branches l.branches);
  eaches_counted : l.next.each + eaches_in (open_branches (drop l.branch-index l.branches)) ≡ l.fn.next.each + eaches_in (open_branches l.branches);
}
