use Rattle.std.proofs.Common.{◌≤◌, refl, sym, ◌∙◌, arith}
use Rattle.std.proofs.lemmas.Bool.{false≢true}
use borrow.Author.Count.{below_more}
use Rattle.tc_mat.specs.Matrix.{HasPair}
use Rattle.tc_model.specs.States.{IsAccepting}
use Rattle.tc_hedge.proofs.Puts.{taken_at, not_taken}
use Rattle.tc_hedge.proofs.hedge.Hedge.is_taken.Goals.{else-has-via-then-has+else-accepts, else-has-via-else-has}
use Rattle.tc_hedge.proofs.hedge.Hedge.is_taken.Goals as goal

pub returns-then-accepts : goal.returns-then-accepts
returns-then-accepts c = λ side x st e at. (
  λ _.
      taken_at x side c.args.inner.now c.args.number e at c.first-first.result c.end-end.result (c.first-first.ensures.exact side x st) (c.end-end.ensures.exact side x st) c.loop-state.state
      c.loop-state.auto.state c.loop-state-test.true (c.has.ensures.0 c.if-has.true) ((c.accepts.ensures side x st).0 c.if-accepts.true),
  λ _. refl,
)

pub returns : goal.returns
returns c = λ side x st e at. (
  λ h. absurd (cc),
  λ t. absurd (not_taken x side c.args.inner.now c.args.number e at c.first-first.result c.end-end.result (c.first-first.ensures.exact side x st) (c.end-end.ensures.exact side x st)
      (λ state high low. c.loop-state.invariant side x st state high (omega (arith, low, c.loop-state-test.false))) t),
)

pub loop-state-preserved : goal.loop-state-preserved
loop-state-preserved c = λ side x st state high low p q.
    below_more (λ k. c.first-first.result ≤ k → HasPair c.args.inner.now c.first-first.result k → IsAccepting x side k → ⊥) c.loop-state.state (λ k l h. c.loop-state.invariant side x st k h l)
    (λ h a b.
    elim c.else-has.branch [
      | else-has-via-then-has+else-accepts w ↦ false≢true (sym w.if-accepts.false ∙ (w.accepts.ensures side x st).1 b)
      | else-has-via-else-has w ↦ false≢true (sym w.if-has.false ∙ c.has.ensures.1 a)
    ])
    state low high p q
