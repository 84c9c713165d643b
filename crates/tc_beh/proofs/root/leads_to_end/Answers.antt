use Rattle.std.proofs.Common.{refl, arith}
use Rattle.tc_model.specs.States.{output}
use Rattle.tc_beh.proofs.Rooted.{ends_at, ends_nowhere}
use Rattle.tc_beh.proofs.root.leads_to_end.Goals as goal

pub returns-then-accepts : goal.returns-then-accepts
returns-then-accepts c = λ x st. (
  λ _. ends_at x c.args.set.now c.end-state-end.result (c.end-state-end.ensures.exact output x st) c.loop-state.state c.loop-state-test.true (c.has.ensures.0 c.if-has.true) ((c.accepts.ensures output x st).0 c.if-accepts.true),
  λ _. refl,
)

pub returns : goal.returns
returns c = λ x st. (
  λ h. absurd (cc),
  λ t. absurd (ends_nowhere x c.args.set.now c.end-state-end.result (c.end-state-end.ensures.exact output x st) (λ state low. c.loop-state.invariant output x st state (omega (arith, low, c.loop-state-test.false, c.loop-state.auto.state-end))) t),
)
