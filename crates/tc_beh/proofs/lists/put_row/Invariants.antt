use Rattle.std.proofs.Common.{◌≡◌, ◌≤◌, ◌++◌, ◌-◌}
use Rattle.tc_beh.specs.Listing.{row_pairs}
use Rattle.tc_beh.proofs.lists.put_row.Given as goal

abbrev pub invariant-loop-to : goal.invariant-loop-to
invariant-loop-to l = (l.pairs ≡ l.fn.pairs ++ row_pairs l.set l.from l.start) × (l.start ≤ l.set.size)

abbrev pub decreases-loop-to : goal.decreases-loop-to
decreases-loop-to l = l.set.size - l.start
