use Rattle.std.proofs.Common.{refl, arith}
use Rattle.tc_beh.proofs.Surrounding.{taken_at, not_taken}
use Rattle.tc_beh.proofs.patterns.is_taken.Goals as goal

pub returns-then-accepts : goal.returns-then-accepts
returns-then-accepts c = λ side x st e at. (
  λ _.
      taken_at x side c.args.states.now c.args.number e at c.first-first.result c.end-end.result (c.first-first.ensures.exact side x st) (c.end-end.ensures.exact side x st) c.loop-state.state
      c.loop-state.auto.state c.loop-state-test.true (c.is_set.ensures.0 c.if-is_set.true) ((c.accepts.ensures side x st).0 c.if-accepts.true),
  λ _. refl,
)

pub returns : goal.returns
returns c = λ side x st e at. (
  λ h. absurd (cc),
  λ t. absurd (not_taken x side c.args.states.now c.args.number e at c.first-first.result c.end-end.result (c.first-first.ensures.exact side x st) (c.end-end.ensures.exact side x st)
      (λ state high low. c.loop-state.invariant side x st state high (omega (arith, low, c.loop-state-test.false))) t),
)
