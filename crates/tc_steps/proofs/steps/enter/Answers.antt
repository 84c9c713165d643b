use Rattle.std.proofs.Common.{◌≡◌, ◌↔◌, ℕ, ◌+◌, ap, ◌∙◌, sym, subst, length, arith}
use Rattle.std.proofs.lemmas.Bool.{true≢false}
use Rattle.tc_model.specs.States.{input}
use Rattle.tc_sets.specs.Numbers.{Numbers, Has}
use Rattle.tc_steps.specs.Led.{IsBegun}
use Rattle.tc_steps.proofs.Found.{begun_none, begun_more, begun_same}
use Rattle.tc_steps.proofs.LedLaws.{led_none}
use Rattle.tc_steps.proofs.steps.enter.Goals.{then-has, else-has}
use Rattle.tc_steps.proofs.steps.enter.Goals as goal

pub loop-before-init : goal.loop-before-init
loop-before-init c = (c.clear.ensures.size ∙ c.requires.size, λ x st. begun_none x c.args.numbers.now c.clear.new.self c.clear.ensures.numbers)

pub loop-before-preserved : goal.loop-before-preserved
loop-before-preserved c =
    let numbers = c.args.numbers.now in
    let n = c.loop-before.before in
    elim c.if-has.branch [
      | then-has w ↦ (
        ap (λ (s : Numbers). s.size) w.states-is ∙ (w.add.ensures.size ∙ c.loop-before.invariant.0),
        λ x st. subst (λ (s : Numbers). (j : ℕ) → Has s j ↔ IsBegun x numbers (n + 1) j) (sym w.states-is)
            (begun_more x n w.first.result numbers c.loop-before.states w.add.new.self (c.has.ensures.0 w.if-has.true) (w.first.ensures.exact input x st) (c.loop-before.invariant.1 x st) w.add.ensures.numbers),
      )
      | else-has w ↦ (
        ap (λ (s : Numbers). s.size) w.states-is ∙ c.loop-before.invariant.0,
        λ x st. subst (λ (s : Numbers). (j : ℕ) → Has s j ↔ IsBegun x numbers (n + 1) j) (sym w.states-is)
            (begun_same x n numbers c.loop-before.states (λ h. true≢false (sym (c.has.ensures.1 h) ∙ w.if-has.false)) (c.loop-before.invariant.1 x st)),
      )
    ]

pub returns-clause-led : goal.returns-clause-led
returns-clause-led c = λ x n st allowed.
    let count : c.loop-before.before ≡ length x.elements = omega (arith, c.loop-before.auto.before-end, c.loop-before-test.false, c.patterns-before-end.ensures.schema input x st) in
    led_none x n c.args.numbers.now c.loop-before.states allowed (λ j. subst (λ m. Has c.loop-before.states j ↔ IsBegun x c.args.numbers.now m j) count (c.loop-before.invariant.1 x st j))
