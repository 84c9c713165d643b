use Rattle.std.proofs.Common.{◌≡◌, ◌∙◌, ◌<◌, ℕ, List, ap, arith, length, subst, slice_index, sym}
use Rattle.tc_simple.specs.Orders.{AreSized, PutsSize}
use Rattle.tc_simple.proofs.Ordered.{puts_size_length, size_step}
use Rattle.tc_simple.proofs.Answered.{failed_ok}
use Rattle.tc_simple.proofs.order.all_sizes.Goals as goal

pub loop-number-preserved : goal.loop-number-preserved
loop-number-preserved c = record {
  size = puts_size_length c.args.table.now c.args.marks.now _ c.loop-number.sizes c.put_size.new.sizes c.put_size.ensures ∙ c.loop-number.invariant.size;
  sized = λ s es o.
      let order = c.args.walk.now.order.items in
      let i = c.loop-number.number-index in
      let small : i < length order = subst (λ (z : List ℕ). i < length z) c.deref-number-items.ensures.value c.loop-number-test.true in
      size_step s es c.args.table.now c.args.marks.now c.args.walk.now.states.items order o i small c.loop-number.sizes c.put_size.new.sizes
      (omega (arith, c.requires.order i 0 small, c.loop-number.invariant.size)) (c.loop-number.invariant.sized s es o)
      (subst (λ (z : List ℕ). PutsSize c.args.table.now c.args.marks.now (slice_index z i) c.loop-number.sizes c.put_size.new.sizes) c.deref-number-items.ensures.value c.put_size.ensures);
}

pub returns : goal.returns
returns c =
    let all : c.loop-number.number-index ≡ length c.args.walk.now.order.items = omega (arith, c.loop-number-test.false, c.loop-number.auto.number-index-end, ap length c.deref-number-items.ensures.value) in (
      c.loop-number.invariant.size,
      λ s es o.
          subst (λ n. AreSized s es c.args.table.now c.args.marks.now c.args.walk.now.states.items n c.loop-number.sizes) all (c.loop-number.invariant.sized s es o),
    )

pub put_size-requires-clause-marks : goal.put_size-requires-clause-marks
put_size-requires-clause-marks c = c.requires.marks

pub returns-in_err-sizes : goal.returns-in_err-sizes
returns-in_err-sizes c = failed_ok c.from_residual.result _ _ c.from_residual.ensures.1

pub put_size-requires-clause-place : goal.put_size-requires-clause-place
put_size-requires-clause-place c =
    let order = c.args.walk.now.order.items in
    let i = c.loop-number.number-index in
    let small : i < length order = subst (λ (z : List ℕ). i < length z) c.deref-number-items.ensures.value c.loop-number-test.true in
    record {
      within = subst (λ (z : List ℕ). slice_index z i < length c.args.table.now.patterns.items) (sym c.deref-number-items.ensures.value) (c.requires.order i 0 small);
      room = c.loop-number.invariant.size;
    }
