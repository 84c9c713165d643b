use Rattle.std.proofs.Common.{◌≡◌, ◌<◌, subst, sym, ◌∙◌, ap, refl, length, MatchOption, Some, slice_get, Result, Ok, Err, OnErr}
use Rattle.std.specs.List.{All}
use Rattle.std.proofs.lemmas.List.{length-map}
use Rattle.std.proofs.lemmas.Option.{slice_get-get_or}
use Rattle.tc_incl.specs.declared.rows.Row.{Row}
use Rattle.tc_incl.specs.declared.steps.BothSteps.{BothSteps}
use Rattle.tc_incl.specs.Covers.{AreHeld, State, held_of, state_of}
use Rattle.tc_incl.specs.Held.{IsHedgeFit, IsTreeFit, IsWrapped, NoWrapped, tree_row}
use Rattle.tc_incl.specs.Stepped.{AreStepped}
use Rattle.tc_incl.specs.Wraps.{AreKnown}
use Rattle.tc_incl.proofs.Alike.{known_on}
use Rattle.tc_incl.proofs.Holding.{as_tree, hedge_fit_at, hedge_low, more_trees, no_wrap_at, same_trees, tree_grows, tree_held, wrap_at}
use Rattle.tc_incl.proofs.Stepped.{stepped_at}
use Rattle.tc_incl.proofs.HandedOn.{no_value}
use Rattle.tc_incl.proofs.covers.Covers.wrap_new.Goals as goal

on_err : {T E X : Type 0} (r : Result T E) → X → OnErr r X
on_err (Ok t) x = tt
on_err (Err e) x = x

pub step_to-requires-clause-hedge : goal.step_to-requires-clause-hedge
step_to-requires-clause-hedge g c =
    subst (λ l. c.args.hedge < length l) (sym c.as_slice.ensures.keys)
    (hedge_low g.K.Over.is_of c.self.inside.both c.self.inside.hedges.keys c.self.inside.trees.keys c.self.invariant.0 c.args.self.now c.self.view_is c.args.hedge c.requires.hedge)

pub returns-in_err-step_to-clause-grows : goal.returns-in_err-step_to-clause-grows
returns-in_err-step_to-clause-grows g c =
    same_trees g.K.Over.is_of c.self.inside.both c.self.inside.hedges.keys c.self.inside.trees.keys c.self.invariant.0 c.args.self.now c.self.view_is c.self.inside.trees.keys refl

pub wrapped-requires-clause-steps : goal.wrapped-requires-clause-steps
wrapped-requires-clause-steps g c =
    let b = c.self.inside.both in
    let hs = c.self.inside.hedges.keys in
    let ss = c.step_to.new.steps.items in
    let t : BothSteps = c.index.result.now in
    let at : slice_get ss c.args.hedge ≡ Some t = slice_get-get_or ss c.args.hedge t c.in_ok-step_to.ensures.there ∙ ap Some (sym c.index.ensures) in
    let (p, there, are) = stepped_at b hs c.as_slice.result.now ss c.args.hedge t c.as_slice.ensures.keys c.in_ok-step_to.ensures.stepped at in
    (p, are)

pub returns-in_err-made-clause-grows : goal.returns-in_err-made-clause-grows
returns-in_err-made-clause-grows g c =
    same_trees g.K.Over.is_of c.self.inside.both c.self.inside.hedges.keys c.self.inside.trees.keys c.self.invariant.0 c.args.self.now c.self.view_is c.self.inside.trees.keys refl

pub returns-in_default-clause-grows : goal.returns-in_default-clause-grows
returns-in_default-clause-grows g c =
    same_trees g.K.Over.is_of c.self.inside.both c.self.inside.hedges.keys c.self.inside.trees.keys c.self.invariant.0 c.args.self.now c.self.view_is c.self.inside.trees.keys refl

pub returns-in_default-clause-made : goal.returns-in_default-clause-made
returns-in_default-clause-made g c =
    let of = g.K.Over.is_of in
    let b = c.self.inside.both in
    let hs = c.self.inside.hedges.keys in
    let ts = c.self.inside.trees.keys in
    let ss = c.step_to.new.steps.items in
    let t : BothSteps = c.index.result.now in
    let at : slice_get ss c.args.hedge ≡ Some t = slice_get-get_or ss c.args.hedge t c.in_ok-step_to.ensures.there ∙ ap Some (sym c.index.ensures) in
    let (p, there, are) = stepped_at b hs c.as_slice.result.now ss c.args.hedge t c.as_slice.ensures.keys c.in_ok-step_to.ensures.stepped at in
    let fit = hedge_fit_at b hs c.args.hedge p there c.self.invariant.0.hedges_fit in
    let made = c.in_ok-made.ensures.made p fit are in
    let dead : NoWrapped b c.args.symbol p = subst (λ o. MatchOption o (NoWrapped b c.args.symbol p) (λ (r : Row). IsTreeFit b r × IsWrapped b c.args.symbol p r)) c.in_default.is made in (
      no_wrap_at of b hs ts c.self.invariant.0 c.args.symbol c.args.hedge p there dead,
      (ap (λ (s : State). length s.trees) c.self.view_is, ap (λ (s : State). length s.hedges) c.self.view_is),
    )

pub returns-in_err-number-clause-grows : goal.returns-in_err-number-clause-grows
returns-in_err-number-clause-grows g c =
    let of = g.K.Over.is_of in
    let b = c.self.inside.both in
    let hs = c.self.inside.hedges.keys in
    let ts = c.self.inside.trees.keys in
    same_trees of b hs ts c.self.invariant.0 c.args.self.now c.self.view_is c.hold.new.rows.keys c.in_err-number.ensures.err

pub invariant_of-self-in_err-number : goal.invariant_of-self-in_err-number
invariant_of-self-in_err-number g c =
    let of = g.K.Over.is_of in
    let b = c.self.inside.both in
    let hs = c.self.inside.hedges.keys in
    let ts = c.self.inside.trees.keys in
    let ss = c.step_to.new.steps.items in (
      subst (λ w. AreHeld of b hs w) (sym c.in_err-number.ensures.err) c.self.invariant.0,
      subst (λ w. AreStepped b w ss) c.as_slice.ensures.keys c.in_ok-step_to.ensures.stepped,
      subst (λ w. AreKnown (held_of of (state_of b hs w)) b.kinds.items c.self.inside.wraps) (sym c.in_err-number.ensures.err) c.self.invariant.2,
    )

pub invariant_of-self-2 : goal.invariant_of-self-2
invariant_of-self-2 g c =
    let of = g.K.Over.is_of in
    let b = c.self.inside.both in
    let hs = c.self.inside.hedges.keys in
    let ts = c.self.inside.trees.keys in
    let ks = c.hold.new.rows.keys in
    let u = c.in_ok-number.number in
    let held = c.in_ok-number.ensures in
    let ss = c.step_to.new.steps.items in
    let t : BothSteps = c.index.result.now in
    let at : slice_get ss c.args.hedge ≡ Some t = slice_get-get_or ss c.args.hedge t c.in_ok-step_to.ensures.there ∙ ap Some (sym c.index.ensures) in
    let (p, there, are) = stepped_at b hs c.as_slice.result.now ss c.args.hedge t c.as_slice.ensures.keys c.in_ok-step_to.ensures.stepped at in
    let fit = hedge_fit_at b hs c.args.hedge p there c.self.invariant.0.hedges_fit in
    let fact : IsTreeFit b c.in-Some.row × IsWrapped b c.args.symbol p c.in-Some.row = subst (λ o. MatchOption o (NoWrapped b c.args.symbol p) (λ (r : Row). IsTreeFit b r × IsWrapped b c.args.symbol p r)) c.in-Some.is (c.in_ok-made.ensures.made p fit are) in (
      tree_held of b hs ts c.self.invariant.0 ks u c.in-Some.row held.held held.kept held.different fact.0,
      subst (λ w. AreStepped b w ss) c.as_slice.ensures.keys c.in_ok-step_to.ensures.stepped,
      known_on (held_of of (state_of b hs ts)) (held_of of (state_of b hs ks)) b.kinds.items c.self.inside.wraps (tree_grows of b hs ts c.self.invariant.0 ks u c.in-Some.row held.held held.kept) c.self.invariant.2,
    )

pub returns-clause-grows : goal.returns-clause-grows
returns-clause-grows g c =
    let of = g.K.Over.is_of in
    let b = c.self.inside.both in
    let hs = c.self.inside.hedges.keys in
    let ts = c.self.inside.trees.keys in
    let ks = c.hold.new.rows.keys in
    let u = c.in_ok-number.number in
    let held = c.in_ok-number.ensures in
    more_trees of b hs ts c.self.invariant.0 c.args.self.now c.self.view_is ks u c.in-Some.row held.held held.kept

pub returns-clause-made : goal.returns-clause-made
returns-clause-made g c =
    let of = g.K.Over.is_of in
    let b = c.self.inside.both in
    let hs = c.self.inside.hedges.keys in
    let ts = c.self.inside.trees.keys in
    let ks = c.hold.new.rows.keys in
    let u = c.in_ok-number.number in
    let held = c.in_ok-number.ensures in
    let ss = c.step_to.new.steps.items in
    let t : BothSteps = c.index.result.now in
    let at : slice_get ss c.args.hedge ≡ Some t = slice_get-get_or ss c.args.hedge t c.in_ok-step_to.ensures.there ∙ ap Some (sym c.index.ensures) in
    let (p, there, are) = stepped_at b hs c.as_slice.result.now ss c.args.hedge t c.as_slice.ensures.keys c.in_ok-step_to.ensures.stepped at in
    let fit = hedge_fit_at b hs c.args.hedge p there c.self.invariant.0.hedges_fit in
    let fact : IsTreeFit b c.in-Some.row × IsWrapped b c.args.symbol p c.in-Some.row = subst (λ o. MatchOption o (NoWrapped b c.args.symbol p) (λ (r : Row). IsTreeFit b r × IsWrapped b c.args.symbol p r)) c.in-Some.is (c.in_ok-made.ensures.made p fit are) in
    (wrap_at of b hs ts c.self.invariant.0 ks u c.in-Some.row held.held held.kept c.args.symbol c.args.hedge p there fact.1, as_tree of b hs ts c.self.invariant.0 c.args.self.now c.self.view_is ks u c.in-Some.row held.held held.kept)

pub step_to-requires-clause-fit : goal.step_to-requires-clause-fit
step_to-requires-clause-fit g c =
    subst (λ l. All (IsHedgeFit c.self.inside.both) l) (sym c.as_slice.ensures.keys) c.self.invariant.0.hedges_fit

pub step_to-requires-clause-stepped : goal.step_to-requires-clause-stepped
step_to-requires-clause-stepped g c =
    subst (λ w. AreStepped c.self.inside.both w c.self.inside.steps.items) (sym c.as_slice.ensures.keys) c.self.invariant.1

pub invariant_of-self : goal.invariant_of-self
invariant_of-self g c =
    (c.self.invariant.0, subst (λ w. AreStepped c.self.inside.both w c.step_to.new.steps.items) c.as_slice.ensures.keys c.in_err-step_to.ensures.stepped, c.self.invariant.2)

pub invariant_of-self-in_err-made : goal.invariant_of-self-in_err-made
invariant_of-self-in_err-made g c =
    (c.self.invariant.0, subst (λ w. AreStepped c.self.inside.both w c.step_to.new.steps.items) c.as_slice.ensures.keys c.in_ok-step_to.ensures.stepped, c.self.invariant.2)

pub invariant_of-self-in_default : goal.invariant_of-self-in_default
invariant_of-self-in_default g c =
    (c.self.invariant.0, subst (λ w. AreStepped c.self.inside.both w c.step_to.new.steps.items) c.as_slice.ensures.keys c.in_ok-step_to.ensures.stepped, c.self.invariant.2)

pub returns-in_err-step_to-clause-hedges : goal.returns-in_err-step_to-clause-hedges
returns-in_err-step_to-clause-hedges g c =
    ap (λ (s : State). length s.hedges) c.self.view_is

pub returns-in_err-made-clause-hedges : goal.returns-in_err-made-clause-hedges
returns-in_err-made-clause-hedges g c =
    ap (λ (s : State). length s.hedges) c.self.view_is

pub returns-in_err-number-clause-hedges : goal.returns-in_err-number-clause-hedges
returns-in_err-number-clause-hedges g c =
    ap (λ (s : State). length s.hedges) c.self.view_is

pub returns-in_default-clause-hedges : goal.returns-in_default-clause-hedges
returns-in_default-clause-hedges g c =
    ap (λ (s : State). length s.hedges) c.self.view_is

pub returns-clause-hedges : goal.returns-clause-hedges
returns-clause-hedges g c =
    ap (λ (s : State). length s.hedges) c.self.view_is

pub returns-in_err-step_to-clause-fault : goal.returns-in_err-step_to-clause-fault
returns-in_err-step_to-clause-fault g c =
    on_err c.from_residual.result (ap (λ (s : State). length s.trees) c.self.view_is, ap (λ (s : State). length s.hedges) c.self.view_is)

pub returns-in_err-made-clause-fault : goal.returns-in_err-made-clause-fault
returns-in_err-made-clause-fault g c =
    on_err c.from_residual-in_err-made.result (ap (λ (s : State). length s.trees) c.self.view_is, ap (λ (s : State). length s.hedges) c.self.view_is)

pub returns-in_err-number-clause-fault : goal.returns-in_err-number-clause-fault
returns-in_err-number-clause-fault g c =
    on_err c.from_residual-in_err-number.result (ap (λ ks. length (state_of c.self.inside.both c.self.inside.hedges.keys ks).trees) c.in_err-number.ensures.err ∙ ap (λ (s : State). length s.trees) c.self.view_is, ap (λ (s : State). length s.hedges) c.self.view_is)

pub returns-in_default-clause-fault : goal.returns-in_default-clause-fault
returns-in_default-clause-fault g c =
    tt

pub returns-clause-fault : goal.returns-clause-fault
returns-clause-fault g c =
    tt

pub wrapped-requires-clause-symbol : goal.wrapped-requires-clause-symbol
wrapped-requires-clause-symbol g c =
    subst (λ (s : State). c.args.symbol < s.symbols) (sym c.self.view_is) c.requires.symbol

pub hold-requires : goal.hold-requires
hold-requires g c =
    record { room = subst (λ n. n < 4294967295) (length-map c.self.inside.trees.keys tree_row) (subst (λ (s : State). length s.trees < 4294967295) (sym c.self.view_is) c.requires.room) }

pub returns-in_err-step_to-clause-made : goal.returns-in_err-step_to-clause-made
returns-in_err-step_to-clause-made g c = no_value c.from_residual.result _ _ c.from_residual.ensures.1

pub returns-in_err-made-clause-made : goal.returns-in_err-made-clause-made
returns-in_err-made-clause-made g c = no_value c.from_residual-in_err-made.result _ _ c.from_residual-in_err-made.ensures.1

pub returns-in_err-number-clause-made : goal.returns-in_err-number-clause-made
returns-in_err-number-clause-made g c = no_value c.from_residual-in_err-number.result _ _ c.from_residual-in_err-number.ensures.1
