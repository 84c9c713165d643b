use Rattle.std.proofs.Common.{◌≡◌, ◌<◌, ◌≤◌, refl, ap, length, arith, rules}
use Rattle.tc_model.specs.Sheets as model
use Rattle.tc_model.specs.Views as see
use Rattle.tc_dead.specs.Marked as m
use Rattle.tc_dead.specs.Views.{seen, placed, IsBegunBody, IsPutBody}
use Rattle.tc_dead.proofs.CountSteps.{if_ok, on_ok, branches_count, eaches_count, branches_count_in, eaches_count_in}
use Rattle.tc_dead.proofs.MarkSteps.{put_leaf, put_elem, put_copy, put_choose, put_each, body_step, body_end, begun_so, begun_yes, begun_no, branch_so, branches_step, branches_end, last_nothing, last_something}
use Rattle.tc_dead.proofs.marking.+mark.Goals as goal
use Rattle.tc_dead.proofs.marking.+mark.Goals.{marked_body-then-is_spot+in_ok-put_mark, marked_body-else-is_spot}

pub put_one-returns-in-Elem : goal.put_one-returns-in-Elem
put_one-returns-in-Elem t c =
    on_ok c.put_all.result _ _
    (λ (h : IsPutBody (seen c.args.marker.now.spot) c.in-Elem.inner.now c.args.next.now c.put_all.new.next c.args.found.now.items c.put_all.new.found.items).
    put_elem (seen c.args.marker.now.spot) c.args.instruction.now c.args.next.now c.put_all.new.next c.args.found.now.items c.put_all.new.found.items c.in-Elem.field-0 c.in-Elem.inner c.in-Elem.is h)
    c.put_all.ensures

pub put_one-returns-in_ok-copied-in-Copy : goal.put_one-returns-in_ok-copied-in-Copy
put_one-returns-in_ok-copied-in-Copy t c =
    on_ok c.put_copy.result _ _
    (λ (h : (rest : model.Body) → placed c.put_copy.new.found.items rest ≡ placed c.args.found.now.items (model.put_element m.wrapper_name (model.copy (see.body c.in_ok-copied-in-Copy.copied.now) model.no_instruction) rest)).
    put_copy (seen c.args.marker.now.spot) c.args.instruction.now c.args.next.now c.marked_body.new.next c.args.found.now.items c.put_copy.new.found.items c.in-Copy.inner c.in_ok-copied-in-Copy.copied.now c.in-Copy.is
    c.in_ok-copied-in-Copy.ensures h)
    c.put_copy.ensures

pub put_one-returns-in_ok-otherwise-in-Choose : goal.put_one-returns-in_ok-otherwise-in-Choose
put_one-returns-in_ok-otherwise-in-Choose t c =
    on_ok c.put_choice.result _ _
    (λ (h : (rest : model.Body) → placed c.put_choice.new.found.items rest
    ≡ placed c.args.found.now.items (model.choose (see.branches c.in_ok-chosen-in-Choose.chosen.now (model.otherwise (see.body c.in_ok-otherwise-in-Choose.otherwise.now))) rest)).
    put_choose (seen c.args.marker.now.spot) c.args.instruction.now c.args.next.now c.marked_last.new.next c.args.found.now.items c.put_choice.new.found.items c.in-Choose.branches c.in-Choose.last c.marked_branches.new.next
    c.in_ok-chosen-in-Choose.chosen c.in_ok-otherwise-in-Choose.otherwise c.in-Choose.is c.in_ok-chosen-in-Choose.ensures c.in_ok-otherwise-in-Choose.ensures h)
    c.put_choice.ensures

pub put_one-returns-in_ok-repeated-in-ForEach : goal.put_one-returns-in_ok-repeated-in-ForEach
put_one-returns-in_ok-repeated-in-ForEach t c =
    on_ok c.put_for_each.result _ _
    (λ (h : (rest : model.Body) → placed c.put_for_each.new.found.items rest
    ≡ placed c.args.found.now.items (model.for_each c.in_ok-number-in-ForEach.number (see.path c.in-ForEach.path) (see.body c.in_ok-repeated-in-ForEach.repeated.now) rest)).
    put_each (seen c.args.marker.now.spot) c.args.instruction.now c.args.next.now c.marked_body-in-ForEach.new.next c.args.found.now.items c.put_for_each.new.found.items _ c.in-ForEach.path c.in-ForEach.inner
    c.in_ok-number-in-ForEach.number (record { branch = c.args.next.now.branch; each = c.take_number.new.next }) c.in_ok-repeated-in-ForEach.repeated c.in-ForEach.is c.in_ok-number-in-ForEach.ensures.ok refl c.in_ok-number-in-ForEach.ensures.counted
    c.in_ok-repeated-in-ForEach.ensures h)
    c.put_for_each.ensures

pub put_one-returns-in-Text : goal.put_one-returns-in-Text
put_one-returns-in-Text t c =
    on_ok c.put.result _ _
    (λ (h : (rest : model.Body) → placed c.put.new.found.items rest ≡ placed c.args.found.now.items (see.instruction c.args.instruction.now rest)).
    put_leaf (seen c.args.marker.now.spot) c.args.instruction.now c.args.next.now c.args.found.now.items c.put.new.found.items h c.in-Text.is)
    c.put.ensures

pub put_all-loop-instruction-init : goal.put_all-loop-instruction-init
put_all-loop-instruction-init t c = record { means = λ rest. refl; branches_counted = refl; eaches_counted = refl }

pub put_all-loop-instruction-preserved : goal.put_all-loop-instruction-preserved
put_all-loop-instruction-preserved t c =
    let p = seen c.args.marker.now.spot in
    let is = c.args.body.now in
    let k = c.loop-instruction.instruction-index in
    let q = c.in_ok-put_one.ensures in
    record {
      means = λ rest.
          body_step p is k c.instruction-item.result c.loop-instruction-test.true c.instruction-item.is c.loop-instruction.next c.put_one.new.next c.loop-instruction.found.items c.put_one.new.found.items _ q c.loop-instruction.invariant.means rest;
      branches_counted = branches_count is k c.instruction-item.result c.loop-instruction-test.true c.instruction-item.is c.loop-instruction.next.branch c.put_one.new.next.branch _ q.past.branches c.loop-instruction.invariant.branches_counted;
      eaches_counted = eaches_count is k c.instruction-item.result c.loop-instruction-test.true c.instruction-item.is c.loop-instruction.next.each c.put_one.new.next.each _ q.past.eaches c.loop-instruction.invariant.eaches_counted;
    }

pub put_all-returns : goal.put_all-returns
put_all-returns t c =
    body_end (seen c.args.marker.now.spot) c.args.body.now c.loop-instruction.instruction-index c.loop-instruction-test.false c.args.next.now c.loop-instruction.next c.loop-instruction.found.items c.args.found.now.items c.loop-instruction.invariant.means
    c.loop-instruction.invariant.branches_counted c.loop-instruction.invariant.eaches_counted

pub marked_body-returns : goal.marked_body-returns
marked_body-returns t c =
    begun_so (seen c.args.marker.now.spot) c.args.is_spot c.args.body.now c.args.next.now c.put_all.new.next c.if-is_spot.found.items c.put_all.new.found.items c.into_bump_slice.result.now
    (elim c.if-is_spot.branch as (λ _. (rest : model.Body) → placed c.if-is_spot.found.items rest ≡ m.begun c.args.is_spot rest) [
      | marked_body-then-is_spot+in_ok-put_mark w ↦ begun_yes c.args.is_spot c.new-found.result.items w.put_mark.new.found.items c.if-is_spot.found.items w.if-is_spot.true c.new-found.ensures.items w.in_ok-put_mark.ensures (ap (λ z. z.items) w.found-is)
      | marked_body-else-is_spot w ↦ begun_no c.args.is_spot c.new-found.result.items c.if-is_spot.found.items w.if-is_spot.false c.new-found.ensures.items (ap (λ z. z.items) w.found-is)
    ])
    c.in_ok-put_all.ensures c.into_bump_slice.ensures

pub marked_branches-loop-branch-init : goal.marked_branches-loop-branch-init
marked_branches-loop-branch-init t c = record { means = λ rest. ap (λ z. see.branches z (m.marked_branches (seen c.args.marker.now.spot) c.args.next.now.branch c.args.next.now.each (see.branches c.args.branches.now rest))) c.new-found.ensures.items; branches_counted = refl; eaches_counted = refl }

pub marked_branches-loop-branch-preserved : goal.marked_branches-loop-branch-preserved
marked_branches-loop-branch-preserved t c =
    let p = seen c.args.marker.now.spot in
    let bs = c.args.branches.now in
    let k = c.loop-branch.branch-index in
    let q = branch_so p c.in_ok-is_spot.is_spot _ c.loop-branch.next c.is_next_branch.new.next c.marked_body.new.next _ c.in_ok-is_spot.ensures.is_so c.in_ok-is_spot.ensures.counted c.in_ok-is_spot.ensures.kept c.in_ok-body.ensures in
    record {
      means = λ rest.
          branches_step p bs k _ c.loop-branch-test.true c.loop-branch.next c.marked_body.new.next c.loop-branch.found.items c.push.new.self.items _ _ c.in_ok-push.ensures.items refl q c.loop-branch.invariant.means rest;
      branches_counted = branches_count_in bs k _ c.loop-branch-test.true c.loop-branch.next.branch c.marked_body.new.next.branch _ q.branches c.loop-branch.invariant.branches_counted;
      eaches_counted = eaches_count_in bs k _ c.loop-branch-test.true c.loop-branch.next.each c.marked_body.new.next.each _ q.eaches c.loop-branch.invariant.eaches_counted;
    }

pub marked_branches-returns : goal.marked_branches-returns
marked_branches-returns t c =
    branches_end (seen c.args.marker.now.spot) c.args.branches.now c.loop-branch.branch-index c.loop-branch-test.false c.args.next.now c.loop-branch.next c.loop-branch.found.items c.into_bump_slice.result.now c.loop-branch.invariant.means
    c.loop-branch.invariant.branches_counted c.loop-branch.invariant.eaches_counted c.into_bump_slice.ensures

pub marked_last-returns-then-is_empty : goal.marked_last-returns-then-is_empty
marked_last-returns-then-is_empty t c =
    let none : length c.args.last.now ≤ 0 = grind (arith, c.is_empty.ensures, c.if-is_empty.true) in
    last_nothing (seen c.args.marker.now.spot) c.args.last.now c.args.next.now _ none refl

pub marked_last-returns : goal.marked_last-returns
marked_last-returns t c =
    let p = seen c.args.marker.now.spot in
    let some : 0 < length c.args.last.now = search rules in
    if_ok c.marked_body.result _ _
    (λ r (h : IsBegunBody p c.in_ok-is_last.is_last c.args.last.now c.is_next_branch.new.next c.marked_body.new.next r.now).
    last_something p c.args.last.now c.args.next.now c.marked_body.new.next r.now some
    (branch_so p c.in_ok-is_last.is_last c.args.last.now c.args.next.now c.is_next_branch.new.next c.marked_body.new.next r.now c.in_ok-is_last.ensures.is_so c.in_ok-is_last.ensures.counted c.in_ok-is_last.ensures.kept h))
    c.marked_body.ensures
