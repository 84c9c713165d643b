use Rattle.std.proofs.Common.{List, Bor, refl, ap, map, ◌++◌}
use Rattle.tc_model.specs.Views as see
use Rattle.tc_model.specs.declared.sheet.Instr.{Instr}
use Rattle.tc_dead.specs.Spots.{bodies_from}
use Rattle.tc_dead.specs.Marked.{marked_body}
use Rattle.tc_dead.specs.Views.{seen, bodies}
use Rattle.tc_dead.proofs.CountSteps.{branches_count_all, eaches_count_all}
use Rattle.tc_dead.proofs.MarkSteps.{named_step, named_end}
use Rattle.tc_dead.proofs.marking.marked_named.Goals as goal

pub loop-index-init : goal.loop-index-init
loop-index-init c = record {
  means = ap (λ z. bodies z ++ map (marked_body (seen c.args.marker.now.spot)) (bodies_from 1 c.args.next.now.branch c.args.next.now.each (bodies c.args.named.now))) c.new-found.ensures.items;
  branches_counted = refl;
  eaches_counted = refl;
}

pub loop-index-preserved : goal.loop-index-preserved
loop-index-preserved c =
    let p = seen c.args.marker.now.spot in
    let bs = c.args.named.now in
    let k = c.loop-index.index in
    let q = c.in_ok-body.ensures in
    record {
      means =
          named_step p bs k _ c.loop-index-test.true c.loop-index.next c.marked_body.new.next c.loop-index.found.items c.push.new.self.items _ c.in_ok-number.number c.is_same-is_spot.result _ c.in_ok-push.ensures.items
          c.in_ok-number.ensures c.is_same-is_spot.ensures q c.loop-index.invariant.means;
      branches_counted = branches_count_all (λ (b : Bor (List Instr)). see.body b.now) bs k _ c.loop-index.next.branch c.marked_body.new.next.branch _ c.loop-index-test.true q.past.branches c.loop-index.invariant.branches_counted;
      eaches_counted = eaches_count_all (λ (b : Bor (List Instr)). see.body b.now) bs k _ c.loop-index.next.each c.marked_body.new.next.each _ c.loop-index-test.true q.past.eaches c.loop-index.invariant.eaches_counted;
    }

pub returns : goal.returns
returns c =
    named_end (seen c.args.marker.now.spot) c.args.named.now c.loop-index.index c.loop-index-test.false c.args.next.now c.loop-index.next c.loop-index.found.items c.into_bump_slice.result.now c.loop-index.invariant.means
    c.loop-index.invariant.branches_counted c.loop-index.invariant.eaches_counted c.into_bump_slice.ensures
