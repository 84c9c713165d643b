use Rattle.std.proofs.Common.{◌≡◌, ◌∙◌, sym, true, arith}
use Rattle.std.proofs.lemmas.Bool.{true≢false}
use Rattle.tc_model.specs.States.{input, is_alternative}
use Rattle.tc_sets.specs.Numbers.{Has}
use Rattle.tc_incl.proofs.Taken.{none_more, starts_told, starts_not}
use Rattle.tc_incl.proofs.sides.Side.starts.Goals.{else-has-via-then-has+else-starts, else-has-via-else-has}
use Rattle.tc_incl.proofs.sides.Side.starts.Goals as goal

pub returns-then-starts : goal.returns-then-starts
returns-then-starts c = λ x st. sym (starts_told x c.args.patterns.now c.size-number-end.ensures.set c.loop-number.number (c.has.ensures.0 c.if-has.true) (sym (c.starts.ensures input x st) ∙ c.if-starts.true))

pub loop-number-preserved : goal.loop-number-preserved
loop-number-preserved c = λ x st k low there starts.
    none_more (λ k. Has c.args.patterns.now k × (is_alternative k x.start ≡ true)) 0 c.loop-number.number (λ k from to (a, b). c.loop-number.invariant x st k to a b)
    (λ (a, b).
    elim c.else-has.branch [
      | else-has-via-then-has+else-starts w ↦ true≢false (sym b ∙ (sym (w.starts.ensures input x st) ∙ w.if-starts.false))
      | else-has-via-else-has w ↦ true≢false (sym (c.has.ensures.1 a) ∙ w.if-has.false)
    ]) k (omega arith) low (there, starts)

pub returns : goal.returns
returns c = λ x st. sym (starts_not x c.args.patterns.now c.size-number-end.ensures.set (λ k low. c.loop-number.invariant x st k (omega (arith, low, c.loop-number-test.false, c.size-number-end.ensures.size))))
