use Rattle.std.proofs.Common.{refl, arith}
use Rattle.tc_cert.proofs.Numbers.{bool_apart}
use Rattle.tc_cert.proofs.Sorted.{pairs_up_to_next, not_sorted_pairs, sorted_pairs}
use Rattle.tc_cert.proofs.pieces.do_pairs_ascend.Goals as goal

pub loop-i-init : goal.loop-i-init
loop-i-init c = λ k h. absurd (omega (arith, h))

pub returns-then-not-is_before : goal.returns-then-not-is_before
returns-then-not-is_before c = (
  λ e. absurd (bool_apart _ e refl),
  λ s.
      absurd (not_sorted_pairs c.args.pairs.now c.loop-i.i c.get.result.now c.get-in-loop-i.result.now c.loop-i.auto.i c.get.ensures c.get-in-loop-i.ensures (λ l. bool_apart c.is_before.result (c.is_before.ensures.1 l) c.if-not-is_before.true) s),
)

pub loop-i-preserved : goal.loop-i-preserved
loop-i-preserved c = pairs_up_to_next c.args.pairs.now c.loop-i.i c.get.result.now c.get-in-loop-i.result.now c.loop-i.auto.i c.get.ensures c.get-in-loop-i.ensures c.loop-i.invariant (c.is_before.ensures.0 c.if-not-is_before.false)

pub returns : goal.returns
returns c = (λ _. sorted_pairs c.args.pairs.now (λ k h. c.loop-i.invariant k (omega (arith, h, c.loop-i-test.false, c.len-i-end.ensures))), λ _. refl)
