use Rattle.tc_simple.proofs.Answered.{failed_ok}
use Rattle.std.proofs.Common.{◌≡◌, ◌∙◌, ◌<◌, ℕ, List, ap, arith, length, map, subst, slice_index, sym}
use Rattle.tc_simple.specs.Nodes.{see_element}
use Rattle.tc_simple.specs.Orders.{AreMade, PutsPattern}
use Rattle.tc_simple.proofs.Ordered.{puts_pattern_length, made_step}
use Rattle.tc_simple.proofs.order.all_patterns.Goals as goal

pub loop-number-preserved : goal.loop-number-preserved
loop-number-preserved c = record {
  size = puts_pattern_length c.args.table.now c.args.marks.now (map see_element c.args.elements.now) _ c.loop-number.made c.put_pattern.new.made c.in_ok-put_pattern.ensures ∙ c.loop-number.invariant.size;
  made = λ s o.
      let es = map see_element c.args.elements.now in
      let order = c.args.walk.now.order.items in
      let i = c.loop-number.number-index in
      let small : i < length order = subst (λ (z : List ℕ). i < length z) c.deref-number-items.ensures.value c.loop-number-test.true in
      made_step s es c.args.table.now c.args.marks.now c.args.walk.now.states.items order o i small c.loop-number.made c.put_pattern.new.made
      (omega (arith, c.requires.order i 0 small, c.loop-number.invariant.size)) (c.loop-number.invariant.made s o)
      (subst (λ (z : List ℕ). PutsPattern c.args.table.now c.args.marks.now es (slice_index z i) c.loop-number.made c.put_pattern.new.made) c.deref-number-items.ensures.value c.in_ok-put_pattern.ensures);
}

pub returns : goal.returns
returns c =
    let all : c.loop-number.number-index ≡ length c.args.walk.now.order.items = omega (arith, c.loop-number-test.false, c.loop-number.auto.number-index-end, ap length c.deref-number-items.ensures.value) in (
      c.loop-number.invariant.size,
      λ s o.
          subst (λ n. AreMade s (map see_element c.args.elements.now) c.args.table.now c.args.marks.now c.args.walk.now.states.items n c.loop-number.made) all (c.loop-number.invariant.made s o),
    )

pub put_pattern-requires-clause-marks : goal.put_pattern-requires-clause-marks
put_pattern-requires-clause-marks c = c.requires.marks

pub put_pattern-requires-clause-few : goal.put_pattern-requires-clause-few
put_pattern-requires-clause-few c = c.requires.few

pub returns-in_err-put_pattern : goal.returns-in_err-put_pattern
returns-in_err-put_pattern c = failed_ok c.from_residual-in_err-put_pattern.result _ _ c.from_residual-in_err-put_pattern.ensures.1

pub returns-in_err-made : goal.returns-in_err-made
returns-in_err-made c = failed_ok c.from_residual.result _ _ c.from_residual.ensures.1

pub put_pattern-requires-clause-place : goal.put_pattern-requires-clause-place
put_pattern-requires-clause-place c =
    let order = c.args.walk.now.order.items in
    let i = c.loop-number.number-index in
    let small : i < length order = subst (λ (z : List ℕ). i < length z) c.deref-number-items.ensures.value c.loop-number-test.true in
    record {
      within = subst (λ (z : List ℕ). slice_index z i < length c.args.table.now.patterns.items) (sym c.deref-number-items.ensures.value) (c.requires.order i 0 small);
      room = c.loop-number.invariant.size;
    }
