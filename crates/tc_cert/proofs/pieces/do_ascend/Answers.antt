use Rattle.std.proofs.Common.{◌-◌, refl, arith}
use Rattle.std.proofs.lemmas.Map.Keys.{below_from_sorted, sorted_from_strictly_increasing}
use Rattle.tc_cert.proofs.Numbers.{bool_apart}
use Rattle.tc_cert.proofs.Steps.{up_to_next}
use Rattle.tc_cert.proofs.pieces.do_ascend.Goals as goal

pub loop-i-init : goal.loop-i-init
loop-i-init c = λ k h. absurd (omega (arith, h))

pub returns-then-numbers-i : goal.returns-then-numbers-i
returns-then-numbers-i c = (
  λ e. absurd (bool_apart _ e refl),
  λ s.
      absurd (omega (arith, below_from_sorted c.args.numbers.now (c.loop-i.i - 1) c.loop-i.i 0 s (omega (arith, c.loop-i.auto.i)) c.loop-i-test.true, c.if-numbers-i.true)),
)

pub loop-i-preserved : goal.loop-i-preserved
loop-i-preserved c = up_to_next c.args.numbers.now c.loop-i.i c.loop-i.auto.i c.loop-i.invariant c.if-numbers-i.false

pub returns : goal.returns
returns c = (λ _. sorted_from_strictly_increasing c.args.numbers.now (λ k h. c.loop-i.invariant k (omega (arith, h, c.loop-i-test.false))), λ _. refl)
