-- The trees that rows are derived by are plain and live, and of these rows.
use Rattle.std.proofs.Common.{◌<◌, ℕ, refl, ap, sym, subst, codes}
use Rattle.tc_model.specs.Trees.{Trees, none, text, element, beside, IsNormal}
use Rattle.tc_model.specs.Chains.{Tree}
use Rattle.tc_model.specs.TreesApart.{alone}
use Rattle.tc_model.specs.LiveTrees.{IsLiveTree, IsLiveHedge, empty_is_live, are_live}
use Rattle.tc_model.specs.Symbols.{symbol_of, symbol_count, fresh_name}
use Rattle.tc_settle.specs.Made.{IsMadeHedge, IsMadeTree, made_none, made_append, made_text, made_wrap}
use Rattle.tc_incl.specs.Schemas.{Schemas}
use Rattle.tc_incl.specs.Rows.{IsRowOfHedge, IsRowOfTree}
use Rattle.tc_incl.specs.Arithmetic.{IsWrap, IsLiveWrap}
use Rattle.tc_incl.specs.Laws.{RowLaws}
use Rattle.tc_incl.specs.Derivations.{ArePlain}
use Rattle.tc_incl.specs.Covers.{State, hedge_at, tree_at, held_of, Known}

plain_beside : (x : Schemas) (h k : Trees) → ArePlain x h → ArePlain x k → ArePlain x (beside h k)
plain_beside x none k a b = b
plain_beside x (text s rest) k a b = (a.0, plain_beside x rest k a.1 b)
plain_beside x (element n kids rest) k a b = (a.0, a.1, plain_beside x rest k a.2 b)

normal_hedge : (x : Schemas) {h : Trees} → IsLiveHedge x.first h → IsNormal h
normal_hedge x empty_is_live = refl
normal_hedge x (are_live a p l) = a.1

module _ (x : Schemas) (s : State) (IsOf : Schemas → Type 0) (is : IsOf x) (known : Known IsOf s) (laws : RowLaws x) where
  mutual
    hedge_is : {h : Trees} {u : ℕ} → IsMadeHedge (held_of IsOf s) x.symbols h u → ArePlain x h × IsLiveHedge x.first h × IsRowOfHedge x h (hedge_at s u)
    hedge_is (made_none {u} at) = (tt, laws.made.none_is_live, laws.commute.empty (hedge_at s u) (at.1 x is))
    hedge_is (made_append {h} {t} {u} {front} {last} d e at) =
        let (p, l, a) = hedge_is d in
        let (q, m, b) = tree_is e in
        let (live, app) = at.1 x is in (
          plain_beside x front (alone last) p q,
          (laws.commute.append_live front last (hedge_at s h) (tree_at s t) l m a b).1 live,
          laws.commute.appended front last (hedge_at s h) (tree_at s t) (hedge_at s u) m.0.1 a b app,
        )

    pub tree_is : {t : Tree} {u : ℕ} → IsMadeTree (held_of IsOf s) x.symbols t u → ArePlain x (alone t) × IsLiveTree x.first t × IsRowOfTree x t (tree_at s u)
    tree_is (made_text {u} at) =
        let (lawful, ink) = laws.made.plain_text in
        let (live, row) = at.1 x is in
        ((refl, tt), (laws.commute.text_live (codes "t") lawful ink).1 live, laws.commute.text (codes "t") (tree_at s u) ink row)
    tree_is (made_wrap {a} {h} {u} {kids} low d at) =
        let (p, l, r) = hedge_is d in
        let few : a < symbol_count x.symbols = subst (λ n. a < n) (known.symbols x is) low in
        let (name, same) = laws.made.fresh a few in
        let (live, row) = at.1 x is in
        let own : IsLiveWrap x (symbol_of x.symbols (fresh_name x.symbols a)) (hedge_at s h) = subst (λ w. IsLiveWrap x w (hedge_at s h)) (sym same) live in (
          (ap (fresh_name x.symbols) (sym same), p, tt),
          (laws.commute.wrap_live (fresh_name x.symbols a) kids (hedge_at s h) name l r).1 own,
          laws.commute.wrapped (fresh_name x.symbols a) kids (hedge_at s h) (tree_at s u) (normal_hedge x l) r (subst (λ w. IsWrap x w (hedge_at s h) (tree_at s u)) (sym same) row),
        )
