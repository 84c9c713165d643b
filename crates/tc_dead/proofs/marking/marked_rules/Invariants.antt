use Rattle.std.proofs.Common.{◌≡◌, ◌+◌, ◌++◌, drop, map}
use Rattle.tc_model.specs.Views as see
use Rattle.tc_dead.specs.Spots.{branches_of_all, eaches_of_all, rules_from}
use Rattle.tc_dead.specs.Marked.{marked_rule}
use Rattle.tc_dead.specs.Views.{seen}
use Rattle.tc_dead.proofs.marking.marked_rules.Given as goal

abbrev pub invariant-loop-index : goal.invariant-loop-index
invariant-loop-index l = record {
  means : map see.rule l.found.items ++ map (marked_rule (seen l.marker.spot)) (rules_from (l.index + 1) l.next.branch l.next.each (map see.rule (drop l.index l.rules)))
      ≡ map (marked_rule (seen l.marker.spot)) (rules_from 1 l.fn.next.branch l.fn.next.each (map see.rule l.rules));
  branches_counted : l.next.branch + branches_of_all (map (λ r. see.body r.body.now) (drop l.index l.rules)) ≡ l.fn.next.branch + branches_of_all (map (λ r. see.body r.body.now) l.rules);
  eaches_counted : l.next.each + eaches_of_all (map (λ r. see.body r.body.now) (drop l.index l.rules)) ≡ l.fn.next.each + eaches_of_all (map (λ r. see.body r.body.now) l.rules);
}
