use Rattle.std.proofs.Common.{◌≡◌, ◌∙◌, [], get_or, sym, subst, ap, arith}
use Rattle.std.proofs.lemmas.Option.{get_or_from_slice_get}
use Rattle.tc_mat.specs.Held.{Held}
use Rattle.tc_rows.specs.PairSets.{IsPairs}
use Rattle.tc_beh.proofs.Holding.{low_got}
use Rattle.tc_beh.proofs.InOrder.{listed_as, not_yet_held, holds_one_more}
use Rattle.tc_beh.proofs.Steps.{no_value}
use Rattle.tc_beh.proofs.lists.pool_of.Goals as goal

pub put_pairs-requires : goal.put_pairs-requires
put_pairs-requires c = λ i j h.
    let lists = c.args.lists.now in
    let n = c.loop-number.number in
    let r = c.get.result.now in
    let at : get_or lists n [] ≡ r = get_or_from_slice_get lists n r [] c.get.ensures in
    let are : IsPairs c.args.size r = subst (λ l. IsPairs c.args.size l) at (c.requires.pairs n [] (low_got lists n r c.get.ensures)) in
    let (a, b) = are.within i j h in
    let same = c.loop-number.invariant.set in
    (omega (arith, a, same), omega (arith, b, same))

pub hold-requires-clause-absent : goal.hold-requires-clause-absent
hold-requires-clause-absent c =
    let lists = c.args.lists.now in
    let n = c.loop-number.number in
    let r = c.get.result.now in
    let m = c.put_pairs.new.set in
    let at : get_or lists n [] ≡ r = get_or_from_slice_get lists n r [] c.get.ensures in
    let low = low_got lists n r c.get.ensures in
    let are : IsPairs c.args.size r = subst (λ l. IsPairs c.args.size l) at (c.requires.pairs n [] low) in
    not_yet_held c.loop-number.outputs lists n m low c.requires.distinct c.loop-number.invariant.held (listed_as m c.args.size r (c.put_pairs.ensures.size ∙ c.loop-number.invariant.set) are c.put_pairs.ensures.pairs ∙ sym at)

pub loop-number-preserved : goal.loop-number-preserved
loop-number-preserved c =
    let lists = c.args.lists.now in
    let n = c.loop-number.number in
    let r = c.get.result.now in
    let m = c.put_pairs.new.set in
    let at : get_or lists n [] ≡ r = get_or_from_slice_get lists n r [] c.get.ensures in
    let low = low_got lists n r c.get.ensures in
    let are : IsPairs c.args.size r = subst (λ l. IsPairs c.args.size l) at (c.requires.pairs n [] low) in
    let size = c.put_pairs.ensures.size ∙ c.loop-number.invariant.set in
    record {
      size = ap (λ (h : Held). h.size) c.in_ok-hold.ensures ∙ c.loop-number.invariant.size;
      set = size;
      held = holds_one_more c.loop-number.outputs c.hold.new.outputs lists n m low c.loop-number.invariant.held (listed_as m c.args.size r size are c.put_pairs.ensures.pairs ∙ sym at) (ap (λ (h : Held). h.matrices) c.in_ok-hold.ensures);
    }

pub returns-in_err-set-clause-size : goal.returns-in_err-set-clause-size
returns-in_err-set-clause-size c = no_value c.from_residual.result _ _ c.from_residual.ensures.1

pub returns-in_err-set-clause-sets : goal.returns-in_err-set-clause-sets
returns-in_err-set-clause-sets c = no_value c.from_residual.result _ _ c.from_residual.ensures.1

pub returns-in_err-hold-clause-size : goal.returns-in_err-hold-clause-size
returns-in_err-hold-clause-size c = no_value c.from_residual-in_err-hold.result _ _ c.from_residual-in_err-hold.ensures.1

pub returns-in_err-hold-clause-sets : goal.returns-in_err-hold-clause-sets
returns-in_err-hold-clause-sets c = no_value c.from_residual-in_err-hold.result _ _ c.from_residual-in_err-hold.ensures.1
