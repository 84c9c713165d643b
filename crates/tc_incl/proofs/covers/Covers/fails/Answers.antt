use Rattle.std.proofs.Common.{◌≡◌, ◌∙◌, ℕ, Bool, true, false, List, Some, MatchBool, ap, subst, sym, slice_get}
use Rattle.std.proofs.lemmas.List.{get_or-map}
use Rattle.std.proofs.lemmas.Option.{get_or_from_slice_get, slice_get_within}
use Rattle.tc_incl.specs.declared.rows.Row.{Row}
use Rattle.tc_incl.specs.declared.both.Both.{Both}
use Rattle.tc_incl.specs.Schemas.{Schemas}
use Rattle.tc_incl.specs.Rows.{TreeRow}
use Rattle.tc_incl.specs.Arithmetic.{IsFailing}
use Rattle.tc_incl.specs.Held.{tree_row, Fails, Passes}
use Rattle.tc_incl.specs.Covers.{AreHeld, State, held_of, no_tree, state_of, tree_at}
use Rattle.tc_incl.proofs.Holding.{row_of, tree_fit_at, tree_low}
use Rattle.tc_incl.proofs.covers.Covers.fails.Goals as goal

fails_at : (IsOf : Schemas → Type 0) (b : Both) (hs ts : List Row) → AreHeld IsOf b hs ts → (t : ℕ) (q : Row) → slice_get ts t ≡ Some q → (r : Bool) → MatchBool r (Fails b q) (Passes b q)
    → MatchBool r ((held_of IsOf (state_of b hs ts)).fails t) ((held_of IsOf (state_of b hs ts)).passes t)
fails_at IsOf b hs ts held t q at r h = by r h
  where
    same : tree_at (state_of b hs ts) t ≡ tree_row q
    same = get_or-map tree_row ts t q no_tree (slice_get_within ts t q at) ∙ ap tree_row (get_or_from_slice_get ts t q q at)

    by : (r : Bool) → MatchBool r (Fails b q) (Passes b q) → MatchBool r ((held_of IsOf (state_of b hs ts)).fails t) ((held_of IsOf (state_of b hs ts)).passes t)
    by true f = λ x o. subst (λ (u : TreeRow). IsFailing x u) (sym same) (f x (held.told x o))
    by false f = λ x o. subst (λ (u : TreeRow). ¬ IsFailing x u) (sym same) (f x (held.told x o))

pub is_failing-requires : goal.is_failing-requires
is_failing-requires g c =
    let b = c.self.inside.both in
    let hs = c.self.inside.hedges.keys in
    let ts = c.self.inside.trees.keys in
    let q = c.index-as_slice-tree.result in
    let at : slice_get ts c.args.tree ≡ Some q = row_of ts c.as_slice.result.now c.args.tree q c.as_slice.ensures.keys c.index-as_slice-tree.is (tree_low g.K.Over.is_of b hs ts c.self.invariant.0 c.args.self.now c.self.view_is c.args.tree c.requires) in
    tree_fit_at b ts c.args.tree q at c.self.invariant.0.trees_fit

pub returns : goal.returns
returns g c =
    let of = g.K.Over.is_of in
    let b = c.self.inside.both in
    let hs = c.self.inside.hedges.keys in
    let ts = c.self.inside.trees.keys in
    let q = c.index-as_slice-tree.result in
    let at : slice_get ts c.args.tree ≡ Some q = row_of ts c.as_slice.result.now c.args.tree q c.as_slice.ensures.keys c.index-as_slice-tree.is (tree_low of b hs ts c.self.invariant.0 c.args.self.now c.self.view_is c.args.tree c.requires) in
    subst (λ (s : State). MatchBool c.is_failing.result ((held_of of s).fails c.args.tree) ((held_of of s).passes c.args.tree)) c.self.view_is
    (fails_at of b hs ts c.self.invariant.0 c.args.tree q at c.is_failing.result c.is_failing.ensures)
