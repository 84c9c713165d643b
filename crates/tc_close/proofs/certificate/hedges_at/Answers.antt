use Rattle.std.proofs.Common.{◌<◌, ◌∷◌, [], length, get_or, ap, subst, sym, ◌∙◌, arith, length-append}
use Rattle.std.proofs.lemmas.Option.{slice_get-get_or}
use Rattle.tc_close.specs.Lines.{hedge_ranked}
use Rattle.tc_close.specs.RowState.{RowState}
use Rattle.tc_close.proofs.Pushed.{pushed_taken}
use Rattle.tc_close.proofs.HandedOn.{no_value}
use Rattle.tc_close.proofs.certificate.hedges_at.Goals as goal

pub push-requires : goal.push-requires
push-requires g c = let e = c.loop-place.invariant.2 in omega (arith, e, c.loop-place-test.true, c.requires.numbers.1)

pub ranked_hedge-requires-clause-place : goal.ranked_hedge-requires-clause-place
ranked_hedge-requires-clause-place g c =
    subst (λ (s : RowState). get_or c.args.numbers.now c.loop-place.place 0 < length s.hedges) (sym c.loop-place.invariant.0) (c.requires.numbers.0 c.loop-place.place 0 c.loop-place-test.true)

pub loop-place-preserved : goal.loop-place-preserved
loop-place-preserved g c = (
  c.ranked_hedge.ensures.same ∙ c.loop-place.invariant.0,
  λ x o. pushed_taken (hedge_ranked x c.args.rows.now c.args.ranks.now) c.args.numbers.now c.loop-place.place (get_or c.args.numbers.now c.loop-place.place 0) c.loop-place.hedges c.push.new.self c.in_ok-line.line
      (slice_get-get_or c.args.numbers.now c.loop-place.place 0 c.loop-place-test.true) (c.loop-place.invariant.1 x o) c.in_ok-push.ensures.ok
      (c.in_ok-line.ensures.line x o ∙ ap (λ (s : RowState). hedge_ranked x s c.args.ranks.now (get_or c.args.numbers.now c.loop-place.place 0)) c.loop-place.invariant.0),
  (let a = ap length c.in_ok-push.ensures.ok in let b = length-append c.loop-place.hedges (c.in_ok-line.line ∷ []) in let e = c.loop-place.invariant.2 in omega (arith, a, b, e)),
)

pub returns-in_err-line-clause-hedges : goal.returns-in_err-line-clause-hedges
returns-in_err-line-clause-hedges g c = no_value c.from_residual.result _ _ c.from_residual.ensures.1

pub returns-in_err-push-clause-hedges : goal.returns-in_err-push-clause-hedges
returns-in_err-push-clause-hedges g c = no_value c.from_residual-in_err-push.result _ _ c.from_residual-in_err-push.ensures.1
