use Rattle.std.proofs.Common.{◌≡◌, ◌+◌, ◌++◌, drop, map}
use Rattle.tc_dead.specs.Spots.{branches_of_all, eaches_of_all, bodies_from}
use Rattle.tc_dead.specs.Marked.{marked_body}
use Rattle.tc_dead.specs.Views.{seen, bodies}
use Rattle.tc_dead.proofs.marking.marked_named.Given as goal

abbrev pub invariant-loop-index : goal.invariant-loop-index
invariant-loop-index l = record {
  means : bodies l.found.items ++ map (marked_body (seen l.marker.spot)) (bodies_from (l.index + 1) l.next.branch l.next.each (bodies (drop l.index l.named)))
      ≡ map (marked_body (seen l.marker.spot)) (bodies_from 1 l.fn.next.branch l.fn.next.each (bodies l.named));
  branches_counted : l.next.branch + branches_of_all (bodies (drop l.index l.named)) ≡ l.fn.next.branch + branches_of_all (bodies l.named);
  eaches_counted : l.next.each + eaches_of_all (bodies (drop l.index l.named)) ≡ l.fn.next.each + eaches_of_all (bodies l.named);
}
