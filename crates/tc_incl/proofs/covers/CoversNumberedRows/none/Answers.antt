use Rattle.tc_incl.specs.Held.{IsHedgeFit, IsNone}
use Rattle.std.proofs.Common.{sym, subst}
use Rattle.tc_incl.specs.Covers.{AreHeld, held_of, state_of}
use Rattle.tc_incl.specs.Stepped.{AreStepped}
use Rattle.tc_incl.specs.Wraps.{AreKnown}
use Rattle.tc_incl.proofs.Alike.{known_on}
use Rattle.tc_incl.proofs.Holding.{as_hedge, hedge_grows, hedge_held, more_hedges, none_at, same_hedges}
use Rattle.tc_incl.proofs.Stepped.{stepped_held}
use Rattle.tc_incl.proofs.covers.CoversNumberedRows.none.Goals as goal

pub returns-in_default-hold-clause-grows : goal.returns-in_default-hold-clause-grows
returns-in_default-hold-clause-grows g c =
    let of = g.K.Over.is_of in
    let b = c.self.inside.both in
    let hs = c.self.inside.hedges.keys in
    let ts = c.self.inside.trees.keys in
    same_hedges of b hs ts c.self.invariant.0 c.args.self.now c.self.view_is c.hold.new.rows.keys c.in_default-hold.ensures.err

pub invariant_of-self-2 : goal.invariant_of-self-2
invariant_of-self-2 g c =
    let of = g.K.Over.is_of in
    let b = c.self.inside.both in
    let hs = c.self.inside.hedges.keys in
    let ts = c.self.inside.trees.keys in
    let ks = c.hold.new.rows.keys in
    let u = c.in-Ok-hold.number in
    let held = c.in-Ok-hold.ensures in
    let fact : IsHedgeFit b c.in-Ok.row × IsNone b c.in-Ok.row = (c.in-Ok.ensures.fit, c.in-Ok.ensures.made) in (
      hedge_held of b hs ts c.self.invariant.0 ks u c.in-Ok.row held.held held.kept held.different fact.0,
      stepped_held b hs ks u c.in-Ok.row c.self.inside.steps.items held.kept c.self.invariant.1,
      known_on (held_of of (state_of b hs ts)) (held_of of (state_of b ks ts)) b.kinds.items c.self.inside.wraps (hedge_grows of b hs ts c.self.invariant.0 ks u c.in-Ok.row held.held held.kept) c.self.invariant.2,
    )

pub returns-clause-grows : goal.returns-clause-grows
returns-clause-grows g c =
    let of = g.K.Over.is_of in
    let b = c.self.inside.both in
    let hs = c.self.inside.hedges.keys in
    let ts = c.self.inside.trees.keys in
    let ks = c.hold.new.rows.keys in
    let u = c.in-Ok-hold.number in
    let held = c.in-Ok-hold.ensures in
    more_hedges of b hs ts c.self.invariant.0 c.args.self.now c.self.view_is ks u c.in-Ok.row held.held held.kept

pub returns-clause-made : goal.returns-clause-made
returns-clause-made g c =
    let of = g.K.Over.is_of in
    let b = c.self.inside.both in
    let hs = c.self.inside.hedges.keys in
    let ts = c.self.inside.trees.keys in
    let ks = c.hold.new.rows.keys in
    let u = c.in-Ok-hold.number in
    let held = c.in-Ok-hold.ensures in
    let fact : IsHedgeFit b c.in-Ok.row × IsNone b c.in-Ok.row = (c.in-Ok.ensures.fit, c.in-Ok.ensures.made) in
    (none_at of b hs ts c.self.invariant.0 ks u c.in-Ok.row held.held held.kept fact.1, as_hedge of b hs ts c.self.invariant.0 c.args.self.now c.self.view_is ks u c.in-Ok.row held.held held.kept)

pub invariant_of-self : goal.invariant_of-self
invariant_of-self g c =
    let of = g.K.Over.is_of in
    let b = c.self.inside.both in
    let ts = c.self.inside.trees.keys in
    let same = sym c.in_default-hold.ensures.err in (
      subst (λ w. AreHeld of b w ts) same c.self.invariant.0,
      subst (λ w. AreStepped b w c.self.inside.steps.items) same c.self.invariant.1,
      subst (λ w. AreKnown (held_of of (state_of b w ts)) b.kinds.items c.self.inside.wraps) same c.self.invariant.2,
    )
