use Rattle.std.proofs.Common.{refl, ap, map, ◌++◌, rules}
use Rattle.tc_model.specs.Views as see
use Rattle.tc_dead.specs.Spots.{rules_from}
use Rattle.tc_dead.specs.Marked.{marked_rule}
use Rattle.tc_dead.specs.Views.{seen}
use Rattle.tc_model.specs.declared.sheet.Rule.{Rule}
use Rattle.tc_dead.proofs.CountSteps.{branches_count_all, eaches_count_all}
use Rattle.tc_dead.proofs.MarkSteps.{rules_step, rules_end}
use Rattle.tc_dead.proofs.marking.marked_rules.Goals as goal

pub loop-index-init : goal.loop-index-init
loop-index-init c = record {
  means = ap (λ z. map see.rule z ++ map (marked_rule (seen c.args.marker.now.spot)) (rules_from 1 c.args.next.now.branch c.args.next.now.each (map see.rule c.args.rules.now))) c.new-found.ensures.items;
  branches_counted = refl;
  eaches_counted = refl;
}

pub loop-index-preserved : goal.loop-index-preserved
loop-index-preserved c =
    let p = seen c.args.marker.now.spot in
    let rs = c.args.rules.now in
    let k = c.loop-index.index in
    let q = c.in_ok-body.ensures in
    record {
      means =
          rules_step p rs k _ c.loop-index-test.true c.loop-index.next c.marked_body.new.next c.loop-index.found.items c.push.new.self.items _ c.in_ok-number.number c.is_same-is_spot.result _ c.in_ok-push.ensures.items refl refl (search rules)
          c.in_ok-number.ensures c.is_same-is_spot.ensures q c.loop-index.invariant.means;
      branches_counted = branches_count_all (λ (r : Rule). see.body r.body.now) rs k _ c.loop-index.next.branch c.marked_body.new.next.branch _ c.loop-index-test.true q.past.branches c.loop-index.invariant.branches_counted;
      eaches_counted = eaches_count_all (λ (r : Rule). see.body r.body.now) rs k _ c.loop-index.next.each c.marked_body.new.next.each _ c.loop-index-test.true q.past.eaches c.loop-index.invariant.eaches_counted;
    }

pub returns : goal.returns
returns c =
    rules_end (seen c.args.marker.now.spot) c.args.rules.now c.loop-index.index c.loop-index-test.false c.args.next.now c.loop-index.next c.loop-index.found.items c.into_bump_slice.result.now c.loop-index.invariant.means
    c.loop-index.invariant.branches_counted c.loop-index.invariant.eaches_counted c.into_bump_slice.ensures
