use Rattle.std.proofs.Common.{◌≡◌, ◌+◌, true, refl, ◌∙◌, sym, arith}
use Rattle.std.proofs.lemmas.Bool.{true≢false}
use Rattle.tc_model.specs.States.{input, is_alternative}
use Rattle.tc_steps.specs.Led.{IsTaken}
use Rattle.tc_steps.proofs.LedLaws.{started_by, not_started}
use Rattle.tc_steps.proofs.Reaching.{none_more}
use Rattle.tc_steps.proofs.patterns.is_started.Goals.{else-starts-via-then-starts+else-is_taken, else-starts-via-else-starts}
use Rattle.tc_steps.proofs.patterns.is_started.Goals as goal

pub returns-then-is_taken : goal.returns-then-is_taken
returns-then-is_taken c = λ x n kids st allowed led. (
  λ _.
      started_by x n kids c.args.numbers.now c.args.states.now allowed led (c.loop-before.before + 1) (sym (c.starts.ensures input x st) ∙ c.if-starts.true) ((c.is_taken.ensures x st).0 c.if-is_taken.true),
  λ _. refl,
)

pub loop-before-preserved : goal.loop-before-preserved
loop-before-preserved c = λ x st k low high p.
    none_more (λ k. (is_alternative k x.start ≡ true) × IsTaken x c.args.numbers.now c.args.states.now k) 1 (c.loop-before.before + 1) (c.loop-before.invariant x st)
    (λ (a, t).
    elim c.else-starts.branch [
      | else-starts-via-then-starts+else-is_taken w ↦ true≢false (sym ((w.is_taken.ensures x st).1 t) ∙ w.if-is_taken.false)
      | else-starts-via-else-starts w ↦ true≢false (sym a ∙ (sym (c.starts.ensures input x st) ∙ w.if-starts.false))
    ]) k low high p

pub returns : goal.returns
returns c = λ x n kids st allowed led. (
  λ h. absurd (true≢false (sym h)),
  λ s. absurd (not_started x n kids c.args.numbers.now c.args.states.now allowed led
      (λ k low high a t. c.loop-before.invariant x st k low (omega (arith, high, c.loop-before-test.false, c.patterns-before-end.ensures.schema input x st)) (a, t)) s),
)
