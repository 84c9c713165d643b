use Rattle.std.proofs.Common.{◌≡◌, ◌<◌, subst, sym, ◌∙◌, ap, refl, length, MatchOption, Some, slice_get, rules}
use Rattle.std.specs.List.{All}
use Rattle.std.proofs.lemmas.List.{length-map}
use Rattle.std.proofs.lemmas.Option.{slice_get-get_or}
use Rattle.tc_incl.specs.declared.rows.Row.{Row}
use Rattle.tc_incl.specs.declared.steps.BothSteps.{BothSteps}
use Rattle.tc_incl.specs.Held.{IsHedgeFit, IsAppended, NoAppended, hedge_row}
use Rattle.tc_incl.specs.Covers.{AreHeld, State, held_of, state_of}
use Rattle.tc_incl.specs.Stepped.{AreStepped}
use Rattle.tc_incl.specs.Wraps.{AreKnown}
use Rattle.tc_incl.proofs.Alike.{known_on}
use Rattle.tc_incl.proofs.Holding.{append_at, as_hedge, hedge_fit_at, hedge_grows, hedge_held, hedge_low, more_hedges, no_append_at, row_of, same_hedges, tree_fit_at, tree_low}
use Rattle.tc_incl.proofs.Stepped.{steps_at, stepped_held}
use Rattle.tc_incl.proofs.covers.CoversNumberedRows.append.Goals as goal

pub returns-in_default-clause-grows : goal.returns-in_default-clause-grows
returns-in_default-clause-grows g c =
    same_hedges g.K.Over.is_of c.self.inside.both c.self.inside.hedges.keys c.self.inside.trees.keys c.self.invariant.0 c.args.self.now c.self.view_is c.self.inside.hedges.keys refl

pub step_to-requires-clause-hedge : goal.step_to-requires-clause-hedge
step_to-requires-clause-hedge g c =
    subst (λ l. c.args.hedge < length l) (sym c.as_slice.ensures.keys)
    (hedge_low g.K.Over.is_of c.self.inside.both c.self.inside.hedges.keys c.self.inside.trees.keys c.self.invariant.0 c.args.self.now c.self.view_is c.args.hedge c.requires.hedge)

pub appended-requires-clause-hedge : goal.appended-requires-clause-hedge
appended-requires-clause-hedge g c =
    let of = g.K.Over.is_of in
    let b = c.self.inside.both in
    let hs = c.self.inside.hedges.keys in
    let ts = c.self.inside.trees.keys in
    let p = c.index-as_slice-hedge.result in
    let front : slice_get hs c.args.hedge ≡ Some p = row_of hs c.as_slice-2.result.now c.args.hedge p c.as_slice-2.ensures.keys c.index-as_slice-hedge.is (hedge_low of b hs ts c.self.invariant.0 c.args.self.now c.self.view_is c.args.hedge c.requires.hedge) in
    hedge_fit_at b hs c.args.hedge p front c.self.invariant.0.hedges_fit

pub appended-requires-clause-steps : goal.appended-requires-clause-steps
appended-requires-clause-steps g c =
    let of = g.K.Over.is_of in
    let b = c.self.inside.both in
    let hs = c.self.inside.hedges.keys in
    let ts = c.self.inside.trees.keys in
    let p = c.index-as_slice-hedge.result in
    let front : slice_get hs c.args.hedge ≡ Some p = row_of hs c.as_slice-2.result.now c.args.hedge p c.as_slice-2.ensures.keys c.index-as_slice-hedge.is (hedge_low of b hs ts c.self.invariant.0 c.args.self.now c.self.view_is c.args.hedge c.requires.hedge) in
    let ss = c.step_to.new.steps.items in
    let t : BothSteps = c.index.result.now in
    let at : slice_get ss c.args.hedge ≡ Some t = slice_get-get_or ss c.args.hedge t c.in-Ok.ensures.there ∙ ap Some (sym c.index.ensures) in
    steps_at b hs ss c.args.hedge t p (subst (λ w. AreStepped b w ss) c.as_slice.ensures.keys c.in-Ok.ensures.stepped) at front

pub appended-requires-clause-tree : goal.appended-requires-clause-tree
appended-requires-clause-tree g c =
    let of = g.K.Over.is_of in
    let b = c.self.inside.both in
    let hs = c.self.inside.hedges.keys in
    let ts = c.self.inside.trees.keys in
    let q = c.index-as_slice-tree.result in
    let last : slice_get ts c.args.tree ≡ Some q = row_of ts c.as_slice-3.result.now c.args.tree q c.as_slice-3.ensures.keys c.index-as_slice-tree.is (tree_low of b hs ts c.self.invariant.0 c.args.self.now c.self.view_is c.args.tree c.requires.tree) in
    tree_fit_at b ts c.args.tree q last c.self.invariant.0.trees_fit

pub returns-in_default-appended-clause-grows : goal.returns-in_default-appended-clause-grows
returns-in_default-appended-clause-grows g c =
    same_hedges g.K.Over.is_of c.self.inside.both c.self.inside.hedges.keys c.self.inside.trees.keys c.self.invariant.0 c.args.self.now c.self.view_is c.self.inside.hedges.keys refl

pub returns-in_default-made-clause-grows : goal.returns-in_default-made-clause-grows
returns-in_default-made-clause-grows g c =
    same_hedges g.K.Over.is_of c.self.inside.both c.self.inside.hedges.keys c.self.inside.trees.keys c.self.invariant.0 c.args.self.now c.self.view_is c.self.inside.hedges.keys refl

pub returns-in_default-made-clause-made : goal.returns-in_default-made-clause-made
returns-in_default-made-clause-made g c =
    let of = g.K.Over.is_of in
    let b = c.self.inside.both in
    let hs = c.self.inside.hedges.keys in
    let ts = c.self.inside.trees.keys in
    let p = c.index-as_slice-hedge.result in
    let q = c.index-as_slice-tree.result in
    let front : slice_get hs c.args.hedge ≡ Some p = row_of hs c.as_slice-2.result.now c.args.hedge p c.as_slice-2.ensures.keys c.index-as_slice-hedge.is (hedge_low of b hs ts c.self.invariant.0 c.args.self.now c.self.view_is c.args.hedge c.requires.hedge) in
    let last : slice_get ts c.args.tree ≡ Some q = row_of ts c.as_slice-3.result.now c.args.tree q c.as_slice-3.ensures.keys c.index-as_slice-tree.is (tree_low of b hs ts c.self.invariant.0 c.args.self.now c.self.view_is c.args.tree c.requires.tree) in
    let dead : NoAppended b p q = search rules in (
      no_append_at of b hs ts c.self.invariant.0 c.args.hedge c.args.tree p q front last dead,
      (ap (λ (s : State). length s.trees) c.self.view_is, ap (λ (s : State). length s.hedges) c.self.view_is),
    )

pub invariant_of-self-in_default-hold : goal.invariant_of-self-in_default-hold
invariant_of-self-in_default-hold g c =
    let of = g.K.Over.is_of in
    let b = c.self.inside.both in
    let hs = c.self.inside.hedges.keys in
    let ts = c.self.inside.trees.keys in
    let ss = c.step_to.new.steps.items in (
      subst (λ w. AreHeld of b w ts) (sym c.in_default-hold.ensures.err) c.self.invariant.0,
      subst (λ w. AreStepped b w ss) (sym c.in_default-hold.ensures.err) (subst (λ w. AreStepped b w ss) c.as_slice.ensures.keys c.in-Ok.ensures.stepped),
      subst (λ w. AreKnown (held_of of (state_of b w ts)) b.kinds.items c.self.inside.wraps) (sym c.in_default-hold.ensures.err) c.self.invariant.2,
    )

pub returns-in_default-hold-clause-grows : goal.returns-in_default-hold-clause-grows
returns-in_default-hold-clause-grows g c =
    let of = g.K.Over.is_of in
    let b = c.self.inside.both in
    let hs = c.self.inside.hedges.keys in
    let ts = c.self.inside.trees.keys in
    same_hedges of b hs ts c.self.invariant.0 c.args.self.now c.self.view_is c.hold.new.rows.keys c.in_default-hold.ensures.err

pub invariant_of-self-2 : goal.invariant_of-self-2
invariant_of-self-2 g c =
    let of = g.K.Over.is_of in
    let b = c.self.inside.both in
    let hs = c.self.inside.hedges.keys in
    let ts = c.self.inside.trees.keys in
    let ks = c.hold.new.rows.keys in
    let ss = c.step_to.new.steps.items in
    let u = c.in-Ok-hold.number in
    let held = c.in-Ok-hold.ensures in
    let fact : IsHedgeFit b c.in-Some.row × IsAppended b c.index-as_slice-hedge.result c.index-as_slice-tree.result c.in-Some.row = subst (λ o. MatchOption o (NoAppended b c.index-as_slice-hedge.result c.index-as_slice-tree.result) (λ (r : Row). IsHedgeFit b r × IsAppended b c.index-as_slice-hedge.result c.index-as_slice-tree.result r)) c.in-Some.is c.in-Ok-appended.ensures.made in (
      hedge_held of b hs ts c.self.invariant.0 ks u c.in-Some.row held.held held.kept held.different fact.0,
      stepped_held b hs ks u c.in-Some.row ss held.kept (subst (λ w. AreStepped b w ss) c.as_slice.ensures.keys c.in-Ok.ensures.stepped),
      known_on (held_of of (state_of b hs ts)) (held_of of (state_of b ks ts)) b.kinds.items c.self.inside.wraps (hedge_grows of b hs ts c.self.invariant.0 ks u c.in-Some.row held.held held.kept) c.self.invariant.2,
    )

pub returns-clause-grows : goal.returns-clause-grows
returns-clause-grows g c =
    let of = g.K.Over.is_of in
    let b = c.self.inside.both in
    let hs = c.self.inside.hedges.keys in
    let ts = c.self.inside.trees.keys in
    let ks = c.hold.new.rows.keys in
    let u = c.in-Ok-hold.number in
    let held = c.in-Ok-hold.ensures in
    more_hedges of b hs ts c.self.invariant.0 c.args.self.now c.self.view_is ks u c.in-Some.row held.held held.kept

pub returns-clause-made : goal.returns-clause-made
returns-clause-made g c =
    let of = g.K.Over.is_of in
    let b = c.self.inside.both in
    let hs = c.self.inside.hedges.keys in
    let ts = c.self.inside.trees.keys in
    let ks = c.hold.new.rows.keys in
    let u = c.in-Ok-hold.number in
    let held = c.in-Ok-hold.ensures in
    let fact : IsHedgeFit b c.in-Some.row × IsAppended b c.index-as_slice-hedge.result c.index-as_slice-tree.result c.in-Some.row = subst (λ o. MatchOption o (NoAppended b c.index-as_slice-hedge.result c.index-as_slice-tree.result) (λ (r : Row). IsHedgeFit b r × IsAppended b c.index-as_slice-hedge.result c.index-as_slice-tree.result r)) c.in-Some.is c.in-Ok-appended.ensures.made in
    let p = c.index-as_slice-hedge.result in
    let q = c.index-as_slice-tree.result in
    let front : slice_get hs c.args.hedge ≡ Some p = row_of hs c.as_slice-2.result.now c.args.hedge p c.as_slice-2.ensures.keys c.index-as_slice-hedge.is (hedge_low of b hs ts c.self.invariant.0 c.args.self.now c.self.view_is c.args.hedge c.requires.hedge) in
    let last : slice_get ts c.args.tree ≡ Some q = row_of ts c.as_slice-3.result.now c.args.tree q c.as_slice-3.ensures.keys c.index-as_slice-tree.is (tree_low of b hs ts c.self.invariant.0 c.args.self.now c.self.view_is c.args.tree c.requires.tree) in
    (append_at of b hs ts c.self.invariant.0 ks u c.in-Some.row held.held held.kept c.args.hedge c.args.tree p q front last fact.1, as_hedge of b hs ts c.self.invariant.0 c.args.self.now c.self.view_is ks u c.in-Some.row held.held held.kept)

pub step_to-requires-clause-fit : goal.step_to-requires-clause-fit
step_to-requires-clause-fit g c =
    subst (λ l. All (IsHedgeFit c.self.inside.both) l) (sym c.as_slice.ensures.keys) c.self.invariant.0.hedges_fit

pub step_to-requires-clause-stepped : goal.step_to-requires-clause-stepped
step_to-requires-clause-stepped g c =
    subst (λ w. AreStepped c.self.inside.both w c.self.inside.steps.items) (sym c.as_slice.ensures.keys) c.self.invariant.1

pub invariant_of-self : goal.invariant_of-self
invariant_of-self g c =
    (c.self.invariant.0, subst (λ w. AreStepped c.self.inside.both w c.step_to.new.steps.items) c.as_slice.ensures.keys c.in_default.ensures.stepped, c.self.invariant.2)

pub bounds-as_slice-hedge : goal.bounds-as_slice-hedge
bounds-as_slice-hedge g c =
    subst (λ l. c.args.hedge < length l) (sym c.as_slice-2.ensures.keys) (hedge_low g.K.Over.is_of c.self.inside.both c.self.inside.hedges.keys c.self.inside.trees.keys c.self.invariant.0 c.args.self.now c.self.view_is c.args.hedge c.requires.hedge)

pub bounds-as_slice-tree : goal.bounds-as_slice-tree
bounds-as_slice-tree g c =
    subst (λ l. c.args.tree < length l) (sym c.as_slice-3.ensures.keys) (tree_low g.K.Over.is_of c.self.inside.both c.self.inside.hedges.keys c.self.inside.trees.keys c.self.invariant.0 c.args.self.now c.self.view_is c.args.tree c.requires.tree)

pub invariant_of-self-in_default-appended : goal.invariant_of-self-in_default-appended
invariant_of-self-in_default-appended g c =
    (c.self.invariant.0, subst (λ w. AreStepped c.self.inside.both w c.step_to.new.steps.items) c.as_slice.ensures.keys c.in-Ok.ensures.stepped, c.self.invariant.2)

pub invariant_of-self-in_default-made : goal.invariant_of-self-in_default-made
invariant_of-self-in_default-made g c =
    (c.self.invariant.0, subst (λ w. AreStepped c.self.inside.both w c.step_to.new.steps.items) c.as_slice.ensures.keys c.in-Ok.ensures.stepped, c.self.invariant.2)

pub returns-in_default-clause-trees : goal.returns-in_default-clause-trees
returns-in_default-clause-trees g c =
    ap (λ (s : State). length s.trees) c.self.view_is

pub returns-in_default-clause-made : goal.returns-in_default-clause-made
returns-in_default-clause-made g c =
    tt

pub returns-in_default-clause-fault : goal.returns-in_default-clause-fault
returns-in_default-clause-fault g c =
    (ap (λ (s : State). length s.trees) c.self.view_is, ap (λ (s : State). length s.hedges) c.self.view_is)

pub returns-in_default-appended-clause-trees : goal.returns-in_default-appended-clause-trees
returns-in_default-appended-clause-trees g c =
    ap (λ (s : State). length s.trees) c.self.view_is

pub returns-in_default-appended-clause-made : goal.returns-in_default-appended-clause-made
returns-in_default-appended-clause-made g c =
    tt

pub returns-in_default-appended-clause-fault : goal.returns-in_default-appended-clause-fault
returns-in_default-appended-clause-fault g c =
    (ap (λ (s : State). length s.trees) c.self.view_is, ap (λ (s : State). length s.hedges) c.self.view_is)

pub returns-in_default-made-clause-trees : goal.returns-in_default-made-clause-trees
returns-in_default-made-clause-trees g c =
    ap (λ (s : State). length s.trees) c.self.view_is

pub returns-in_default-made-clause-fault : goal.returns-in_default-made-clause-fault
returns-in_default-made-clause-fault g c =
    tt

pub returns-in_default-made-clause-full : goal.returns-in_default-made-clause-full
returns-in_default-made-clause-full g c =
    tt

pub returns-in_default-hold-clause-trees : goal.returns-in_default-hold-clause-trees
returns-in_default-hold-clause-trees g c =
    ap (λ (s : State). length s.trees) c.self.view_is

pub returns-in_default-hold-clause-made : goal.returns-in_default-hold-clause-made
returns-in_default-hold-clause-made g c =
    tt

pub returns-in_default-hold-clause-fault : goal.returns-in_default-hold-clause-fault
returns-in_default-hold-clause-fault g c =
    (ap (λ (s : State). length s.trees) c.self.view_is, ap (λ ks. length (state_of c.self.inside.both ks c.self.inside.trees.keys).hedges) c.in_default-hold.ensures.err ∙ ap (λ (s : State). length s.hedges) c.self.view_is)

pub hold-requires : goal.hold-requires
hold-requires g c =
    record { room = subst (λ n. n < 4294967295) (length-map c.self.inside.hedges.keys hedge_row) (subst (λ (s : State). length s.hedges < 4294967295) (sym c.self.view_is) c.requires.room) }

pub returns-clause-trees : goal.returns-clause-trees
returns-clause-trees g c =
    ap (λ (s : State). length s.trees) c.self.view_is

pub returns-clause-fault : goal.returns-clause-fault
returns-clause-fault g c =
    tt

pub returns-clause-full : goal.returns-clause-full
returns-clause-full g c =
    tt
