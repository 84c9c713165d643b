use Rattle.std.proofs.Common.{◌∙◌, sym, refl, arith}
use Rattle.std.proofs.lemmas.Bool.{true≢false}
use Rattle.tc_hedge.proofs.Bounds.{patterns_of}
use Rattle.tc_model.specs.States.{input, IsAccepting}
use Rattle.tc_sets.specs.Numbers.{Has}
use Rattle.tc_steps.proofs.Reaching.{reached_at, not_reached, none_more}
use Rattle.tc_steps.proofs.patterns.is_reached.Goals.{else-has-via-then-has+else-accepts, else-has-via-else-has}
use Rattle.tc_steps.proofs.patterns.is_reached.Goals as goal

pub returns-then-accepts : goal.returns-then-accepts
returns-then-accepts c = λ x st. (
  λ _.
      reached_at x c.args.states.now c.args.number c.first-first.result c.end-end.result (c.first-first.ensures.exact input x st) (c.end-end.ensures.exact input x st) c.requires.from_one (omega (arith, c.requires.within, patterns_of input x c.args.automaton.now st)) c.loop-state.state
      c.loop-state.auto.state c.loop-state-test.true (c.has.ensures.0 c.if-has.true) ((c.accepts.ensures input x st).0 c.if-accepts.true),
  λ _. refl,
)

pub loop-state-preserved : goal.loop-state-preserved
loop-state-preserved c = λ x st state high low there accepts.
    none_more (λ k. Has c.args.states.now k × IsAccepting x input k) c.first-first.result c.loop-state.state (λ k from to (a, b). c.loop-state.invariant x st k from to a b)
    (λ (a, b).
    elim c.else-has.branch [
      | else-has-via-then-has+else-accepts w ↦ true≢false (sym ((w.accepts.ensures input x st).1 b) ∙ w.if-accepts.false)
      | else-has-via-else-has w ↦ true≢false (sym (c.has.ensures.1 a) ∙ w.if-has.false)
    ]) state high low (there, accepts)

pub returns : goal.returns
returns c = λ x st. (
  λ h. absurd (true≢false (sym h)),
  λ t. absurd (not_reached x c.args.states.now c.args.number c.first-first.result c.end-end.result (c.first-first.ensures.exact input x st) (c.end-end.ensures.exact input x st)
      (λ state high low. c.loop-state.invariant x st state high (omega (arith, low, c.loop-state-test.false))) t),
)
