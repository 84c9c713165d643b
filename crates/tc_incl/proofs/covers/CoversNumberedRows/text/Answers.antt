use Rattle.std.proofs.Common.{◌<◌, ◌∙◌, ap, sym, subst, refl, length, MatchOption}
use Rattle.std.proofs.lemmas.List.{length-map}
use Rattle.tc_incl.specs.declared.rows.Row.{Row}
use Rattle.tc_incl.specs.Held.{IsTreeFit, IsText, NoText, tree_row}
use Rattle.tc_incl.specs.Covers.{AreHeld, State, held_of, state_of}
use Rattle.tc_incl.specs.Wraps.{AreKnown}
use Rattle.tc_incl.proofs.Alike.{known_on}
use Rattle.tc_incl.proofs.Holding.{as_tree, more_trees, same_trees, text_at, tree_grows, tree_held}
use Rattle.tc_incl.proofs.covers.CoversNumberedRows.text.Goals as goal

pub returns-in_default-hold-clause-grows : goal.returns-in_default-hold-clause-grows
returns-in_default-hold-clause-grows g c =
    let of = g.K.Over.is_of in
    let b = c.self.inside.both in
    let hs = c.self.inside.hedges.keys in
    let ts = c.self.inside.trees.keys in
    same_trees of b hs ts c.self.invariant.0 c.args.self.now c.self.view_is c.hold.new.rows.keys c.in_default-hold.ensures.err

pub invariant_of-self-2 : goal.invariant_of-self-2
invariant_of-self-2 g c =
    let of = g.K.Over.is_of in
    let b = c.self.inside.both in
    let hs = c.self.inside.hedges.keys in
    let ts = c.self.inside.trees.keys in
    let ks = c.hold.new.rows.keys in
    let u = c.in-Ok-hold.number in
    let held = c.in-Ok-hold.ensures in
    let fact : IsTreeFit b c.in-Some.row × IsText b c.in-Some.row = subst (λ o. MatchOption o (NoText b) (λ (r : Row). IsTreeFit b r × IsText b r)) c.in-Some.is c.in-Ok.ensures.made in (
      tree_held of b hs ts c.self.invariant.0 ks u c.in-Some.row held.held held.kept held.different fact.0,
      c.self.invariant.1,
      known_on (held_of of (state_of b hs ts)) (held_of of (state_of b hs ks)) b.kinds.items c.self.inside.wraps (tree_grows of b hs ts c.self.invariant.0 ks u c.in-Some.row held.held held.kept) c.self.invariant.2,
    )

pub returns-clause-grows : goal.returns-clause-grows
returns-clause-grows g c =
    let of = g.K.Over.is_of in
    let b = c.self.inside.both in
    let hs = c.self.inside.hedges.keys in
    let ts = c.self.inside.trees.keys in
    let ks = c.hold.new.rows.keys in
    let u = c.in-Ok-hold.number in
    let held = c.in-Ok-hold.ensures in
    more_trees of b hs ts c.self.invariant.0 c.args.self.now c.self.view_is ks u c.in-Some.row held.held held.kept

pub returns-clause-made : goal.returns-clause-made
returns-clause-made g c =
    let of = g.K.Over.is_of in
    let b = c.self.inside.both in
    let hs = c.self.inside.hedges.keys in
    let ts = c.self.inside.trees.keys in
    let ks = c.hold.new.rows.keys in
    let u = c.in-Ok-hold.number in
    let held = c.in-Ok-hold.ensures in
    let fact : IsTreeFit b c.in-Some.row × IsText b c.in-Some.row = subst (λ o. MatchOption o (NoText b) (λ (r : Row). IsTreeFit b r × IsText b r)) c.in-Some.is c.in-Ok.ensures.made in
    (text_at of b hs ts c.self.invariant.0 ks u c.in-Some.row held.held held.kept fact.1, as_tree of b hs ts c.self.invariant.0 c.args.self.now c.self.view_is ks u c.in-Some.row held.held held.kept)

pub invariant_of-self : goal.invariant_of-self
invariant_of-self g c =
    let of = g.K.Over.is_of in
    let b = c.self.inside.both in
    let hs = c.self.inside.hedges.keys in
    let same = sym c.in_default-hold.ensures.err in (
      subst (λ w. AreHeld of b hs w) same c.self.invariant.0,
      c.self.invariant.1,
      subst (λ w. AreKnown (held_of of (state_of b hs w)) b.kinds.items c.self.inside.wraps) same c.self.invariant.2,
    )

pub returns-in_default-clause-hedges : goal.returns-in_default-clause-hedges
returns-in_default-clause-hedges g c = refl

pub returns-in_default-made-clause-hedges : goal.returns-in_default-made-clause-hedges
returns-in_default-made-clause-hedges g c = refl

pub returns-in_default-clause-made : goal.returns-in_default-clause-made
returns-in_default-clause-made g c =
    tt

pub returns-in_default-clause-fault : goal.returns-in_default-clause-fault
returns-in_default-clause-fault g c = (refl, refl)

pub returns-in_default-made-clause-fault : goal.returns-in_default-made-clause-fault
returns-in_default-made-clause-fault g c =
    tt

pub returns-in_default-made-clause-full : goal.returns-in_default-made-clause-full
returns-in_default-made-clause-full g c =
    tt

pub returns-in_default-hold-clause-hedges : goal.returns-in_default-hold-clause-hedges
returns-in_default-hold-clause-hedges g c =
    ap (λ (s : State). length s.hedges) c.self.view_is

pub returns-in_default-hold-clause-made : goal.returns-in_default-hold-clause-made
returns-in_default-hold-clause-made g c =
    tt

pub returns-in_default-hold-clause-fault : goal.returns-in_default-hold-clause-fault
returns-in_default-hold-clause-fault g c =
    (ap (λ ks. length (state_of c.self.inside.both c.self.inside.hedges.keys ks).trees) c.in_default-hold.ensures.err ∙ ap (λ (s : State). length s.trees) c.self.view_is, ap (λ (s : State). length s.hedges) c.self.view_is)

pub hold-requires : goal.hold-requires
hold-requires g c =
    record { room = subst (λ n. n < 4294967295) (length-map c.self.inside.trees.keys tree_row) (subst (λ (s : State). length s.trees < 4294967295) (sym c.self.view_is) c.requires.room) }

pub returns-clause-hedges : goal.returns-clause-hedges
returns-clause-hedges g c =
    ap (λ (s : State). length s.hedges) c.self.view_is

pub returns-clause-fault : goal.returns-clause-fault
returns-clause-fault g c =
    tt

pub returns-clause-full : goal.returns-clause-full
returns-clause-full g c =
    tt
