use Rattle.std.proofs.Common.{◌≡◌, ◌<◌, ap, sym, subst, ◌∙◌, length, Some, slice_get, arith}
use Rattle.std.proofs.lemmas.Option.{slice_get-get_or}
use Rattle.tc_incl.specs.Stepped.{AreStepped}
use Rattle.tc_incl.proofs.Stepped.{stepped_more}
use Rattle.tc_incl.proofs.HandedOn.{not_done}
use Rattle.tc_incl.proofs.covers.step_to.Goals as goal

pub returns-in_err-push-clause-stepped : goal.returns-in_err-push-clause-stepped
returns-in_err-push-clause-stepped c = subst (λ w. AreStepped c.args.both.now c.args.hedges.now w) (sym c.in_err-push.ensures.items) c.loop-place.invariant.0

pub loop-place-preserved : goal.loop-place-preserved
loop-place-preserved c =
    let hs = c.args.hedges.now in
    let low : c.loop-place.place < length hs = omega (arith, c.loop-place-test.true, c.requires.hedge) in
    let at : slice_get hs c.loop-place.place ≡ Some c.index-hedges-place.result = slice_get-get_or hs c.loop-place.place c.index-hedges-place.result low ∙ ap Some (sym c.index-hedges-place.is) in (
      stepped_more c.args.both.now hs c.loop-place.steps.items c.push.new.self.items c.in_ok-more.more c.index-hedges-place.result c.in_ok-push.ensures.items c.loop-place.invariant.0
          (subst (λ n. slice_get hs n ≡ Some c.index-hedges-place.result) c.loop-place.invariant.1 at) c.in_ok-more.ensures,
      omega (arith, c.in_ok-push.ensures.len, c.loop-place.invariant.1),
    )

pub returns-in_err-more-clause-there : goal.returns-in_err-more-clause-there
returns-in_err-more-clause-there c = not_done c.from_residual.result _ _ c.from_residual.ensures.1

pub returns-in_err-push-clause-there : goal.returns-in_err-push-clause-there
returns-in_err-push-clause-there c = not_done c.from_residual-in_err-push.result _ _ c.from_residual-in_err-push.ensures.1
