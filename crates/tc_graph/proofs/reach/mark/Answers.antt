use Rattle.std.proofs.Common.{◌≡◌, ◌∙◌, false, ap, sym, subst, get_or, length, ◌<◌}
use Rattle.std.proofs.lemmas.List.{get_or_read, take_all}
use Rattle.tc_graph.specs.Graph.{is_marked}
use Rattle.tc_graph.specs.Marks.{Marks}
use Rattle.tc_graph.proofs.Marks.{marks_more, marks_by, marks_none}
use Rattle.tc_graph.proofs.reach.mark.Goals as goal
use Rattle.tc_graph.proofs.reach.mark.Goals.{then-not-index+in_ok-push, else-not-index}

pub loop-to-preserved : goal.loop-to-preserved
loop-to-preserved c =
    let row = c.args.row.now in
    let i = c.loop-to.to-index in
    let marks = c.loop-to.marks.items in
    let waits = c.loop-to.pending.items in
    let m = marks_more row i c.args.marks.now.items marks c.args.pending.now.items waits c.loop-to-test.true c.requires c.loop-to.invariant in
    let inside : get_or row i 0 < length marks = subst (λ n. get_or row i 0 < n) (sym c.loop-to.invariant.size) (c.requires i 0 c.loop-to-test.true) in
    let read : c.index.result.now ≡ is_marked marks (get_or row i 0) = get_or_read marks _ _ inside c.index.ensures false in
    elim c.if-not-index.branch [
      | then-not-index+in_ok-push w ↦ marks_by (ap (λ v. v.items) w.marks-is) (ap (λ v. v.items) w.pending-is ∙ w.in_ok-push.ensures.items) (m.1 (sym read ∙ w.if-not-index.true))
      | else-not-index w ↦ marks_by (ap (λ v. v.items) w.marks-is) (ap (λ v. v.items) w.pending-is) (m.0 (sym read ∙ w.if-not-index.false))
    ]

pub loop-to-init : goal.loop-to-init
loop-to-init c = marks_none c.args.marks.now.items c.args.pending.now.items

pub returns : goal.returns
returns c = subst (λ r. Marks r c.args.marks.now.items c.loop-to.marks.items c.args.pending.now.items c.loop-to.pending.items) (take_all c.loop-to.to-index c.args.row.now c.loop-to-test.false) c.loop-to.invariant
