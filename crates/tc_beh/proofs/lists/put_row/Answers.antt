use Rattle.std.proofs.Common.{◌∙◌, ◌++◌, ap, sym, arith}
use Rattle.tc_mat.proofs.CallerLemmas.{HasPair-below}
use Rattle.tc_beh.specs.Listing.{row_pairs}
use Rattle.tc_beh.proofs.RowBits.{row_gap, row_next}
use Rattle.tc_beh.proofs.Steps.{not_done}
use Rattle.tc_beh.proofs.lists.put_row.Goals as goal

pub returns-in_err-push_pair : goal.returns-in_err-push_pair
returns-in_err-push_pair c = not_done c.from_residual.result _ _ c.from_residual.ensures.1

pub overflow_add-start : goal.overflow_add-start
overflow_add-start c = omega (arith, c.in-Some.ensures.low)

pub loop-to-smaller : goal.loop-to-smaller
loop-to-smaller c = let within = (HasPair-below c.args.set.now c.args.from c.in-Some.to c.in-Some.ensures.next.1).1 in omega (arith, within, c.in-Some.ensures.next.0)

pub loop-to-preserved : goal.loop-to-preserved
loop-to-preserved c =
    let m = c.args.set.now in
    let to = c.in-Some.to in
    let within = (HasPair-below m c.args.from to c.in-Some.ensures.next.1).1 in (
      row_next m c.args.from c.requires c.loop-to.start to c.args.pairs.now c.loop-to.pairs c.push_pair.new.pairs c.in-Some.ensures.next c.loop-to.invariant.0 c.in_ok-push_pair.ensures,
      omega (arith, within),
    )

pub returns : goal.returns
returns c =
    let m = c.args.set.now in
    c.loop-to.invariant.0 ∙ ap (λ l. c.args.pairs.now ++ l) (sym (row_gap m c.args.from c.requires c.loop-to.start m.size c.loop-to.invariant.1 (omega arith) c.in_default.ensures.next))
