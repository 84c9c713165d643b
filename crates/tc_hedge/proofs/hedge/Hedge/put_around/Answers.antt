use Rattle.std.proofs.Common.{◌+◌, ◌↔◌, ap, ◌∙◌, sym, subst, arith}
use Rattle.std.proofs.lemmas.Bool.{true≢false}
use Rattle.tc_mat.specs.Matrix.{IsMatrix, Matrix, HasPair}
use Rattle.tc_hedge.specs.Items.{IsTakenAround}
use Rattle.tc_hedge.proofs.Bounds.{patterns_of}
use Rattle.tc_hedge.proofs.Puts.{IsAroundTo, around_none, around_more, around_same, around_all}
use Rattle.tc_hedge.proofs.hedge.Hedge.put_around.Goals.{then-is_taken_around, else-is_taken_around}
use Rattle.tc_hedge.proofs.hedge.Hedge.put_around.Goals as goal

pub loop-before-init : goal.loop-before-init
loop-before-init c = (
  c.clear.ensures.size ∙ c.requires.out,
  c.clear.ensures.matrix,
  λ side x st. around_none x side c.args.allowed.now c.args.inner.now c.clear.new.self c.clear.ensures.pairs,
)

pub loop-before-preserved : goal.loop-before-preserved
loop-before-preserved c =
    elim c.if-is_taken_around.branch [
      | then-is_taken_around w ↦ (
        ap (λ (m : Matrix). m.size) w.out-is ∙ (w.put_arrows.ensures.kept.size ∙ c.loop-before.invariant.0),
        subst IsMatrix (sym w.out-is) w.put_arrows.ensures.kept.matrix,
        λ side x st.
            let takes : IsTakenAround x side c.args.allowed.now c.args.inner.now (c.loop-before.before + 1) = (c.is_taken_around.ensures side x st).0 w.if-is_taken_around.true in
            λ i j.
            subst (λ (m : Matrix). HasPair m i j ↔ IsAroundTo x side c.args.allowed.now c.args.inner.now (c.loop-before.before + 1) i j) (sym w.out-is)
            (around_more x side c.args.allowed.now c.args.inner.now c.loop-before.before c.loop-before.out w.put_arrows.new.out w.arrows.result.now (c.loop-before.invariant.2 side x st) takes (w.arrows.ensures.exact side x st) w.put_arrows.ensures.pairs i j),
      )
      | else-is_taken_around w ↦ (
        ap (λ (m : Matrix). m.size) w.out-is ∙ c.loop-before.invariant.0,
        subst IsMatrix (sym w.out-is) c.loop-before.invariant.1,
        λ side x st i j.
            subst (λ (m : Matrix). HasPair m i j ↔ IsAroundTo x side c.args.allowed.now c.args.inner.now (c.loop-before.before + 1) i j) (sym w.out-is)
            (around_same x side c.args.allowed.now c.args.inner.now c.loop-before.before c.loop-before.out (c.loop-before.invariant.2 side x st) (λ t. true≢false (sym ((c.is_taken_around.ensures side x st).1 t) ∙ w.if-is_taken_around.false)) i j),
      )
    ]

pub returns-clause-pairs : goal.returns-clause-pairs
returns-clause-pairs c = λ side x st.
    around_all x side c.args.allowed.now c.args.inner.now c.loop-before.before c.loop-before.out
    (omega (arith, c.loop-before-test.false, c.patterns-before-end.ensures.here, patterns_of side x c.args.self.now.auto st)) (c.loop-before.invariant.2 side x st)

pub is_taken_around-requires : goal.is_taken_around-requires
is_taken_around-requires c = c.requires.inner

pub put_arrows-requires-clause-matrix : goal.put_arrows-requires-clause-matrix
put_arrows-requires-clause-matrix c = c.loop-before.invariant.1

pub returns-clause-kept : goal.returns-clause-kept
returns-clause-kept c = record { size = c.loop-before.invariant.0 ∙ sym c.requires.out; matrix = c.loop-before.invariant.1 }
