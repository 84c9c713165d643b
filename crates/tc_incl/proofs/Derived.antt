-- From the laws of cover rows alone: which rows come from rows, and what follows for inclusion and least differences.
use Rattle.std.proofs.Common.{◌≡◌, ◌⊎◌, inl, inr, ℕ, zero, suc, ◌+◌, ◌<◌, Bool, true, false, refl, ap, ◌∙◌, sym, subst, codes, arith}
use Rattle.std.proofs.lemmas.Bool.{true≢false}
use Rattle.tc_model.specs.Trees.{Trees, none, text, element, beside, node_count, IsNormal}
use Rattle.tc_model.specs.Chains.{Tree, an_element, a_text}
use Rattle.tc_model.specs.TreesApart.{alone, followed_by, FromBack, is_none, is_followed}
use Rattle.tc_model.specs.LiveTrees.{IsLiveTree, IsLiveHedge, empty_is_live, are_live}
use Rattle.tc_model.specs.Validity.{IsValid}
use Rattle.tc_model.specs.Symbols.{symbol_of, fresh_name}
use Rattle.tc_rows.proofs.Live.{some_node}
use Rattle.tc_incl.specs.Schemas.{Schemas, IsIncluded, IsDifference, IsLeastDifference}
use Rattle.tc_incl.specs.Rows.{HedgeRow, TreeRow, IsRowOfHedge, IsRowOfTree}
use Rattle.tc_incl.specs.Arithmetic.{IsWrap, IsLiveWrap, is_start, IsFailing}
use Rattle.tc_incl.specs.Laws.{RowLaws}
use Rattle.tc_incl.specs.Derivations.{HedgeFrom, TreeFrom, from_none, from_append, from_text, from_wrap, ArePlain, IsRowOfPlain, IsLeastFailing, AreExact, DerivationsAreExact}
use Rattle.tc_incl.proofs.AllLaws.{rows_are_lawful}

true_or_false : (b : Bool) → (b ≡ true) ⊎ (b ≡ false)
true_or_false true = inl refl
true_or_false false = inr refl

module _ (x : Schemas) (laws : RowLaws x) where
  normal_tree : (t : Tree) → IsLiveTree x.first t → IsNormal (alone t)
  normal_tree t l = l.0.1

  normal_hedge : {h : Trees} → IsLiveHedge x.first h → IsNormal h
  normal_hedge empty_is_live = refl
  normal_hedge (are_live a p l) = a.1

  -- rows of live trees come from rows
  abbrev HedgeComes : Trees → Type 0
  HedgeComes h = IsLiveHedge x.first h → (r : HedgeRow) × IsRowOfHedge x h r × HedgeFrom x r (node_count h)

  abbrev TreeComes : Tree → Type 0
  TreeComes t = IsLiveTree x.first t → (r : TreeRow) × IsRowOfTree x t r × TreeFrom x r (node_count (alone t))

  tree_comes : (t : Tree) → ((h : Trees) → node_count h < node_count (alone t) → HedgeComes h) → TreeComes t
  tree_comes (a_text s) rows l =
      let (u, c) = laws.there.text in
      let (lawful, ink) = laws.made.no_white_text s l in
      let one : 1 ≡ node_count (text s none) = omega arith in
      (u, laws.commute.text s u ink c, subst (TreeFrom x u) one (from_text ((laws.commute.text_live s lawful ink).0 l) c))
  tree_comes (an_element n kids) rows l =
      let inside = laws.made.inside n kids l in
      let (r, a, d) = rows kids (omega arith) inside in
      let (u, c) = laws.there.wrapped (symbol_of x.symbols n) r a.row in
      let count : node_count kids + 1 ≡ node_count (element n kids none) = omega arith in (
        u,
        laws.commute.wrapped n kids r u (normal_hedge inside) a c,
        subst (TreeFrom x u) count (from_wrap (laws.made.symbol n) d ((laws.commute.wrap_live n kids r (laws.made.name_inside n kids l) inside a).0 l) c),
      )

  hedge_comes : (n : ℕ) (h : Trees) → node_count h < n → HedgeComes h
  hedge_comes zero h low l = absurd (omega (arith, low))
  hedge_comes (suc n) h low l = by (laws.made.from_back h) low l (λ k less. hedge_comes n k less)
    where
      by : {k : Trees} → FromBack k → node_count k < suc n → IsLiveHedge x.first k → ((m : Trees) → node_count m < n → HedgeComes m) → (r : HedgeRow) × IsRowOfHedge x k r × HedgeFrom x r (node_count k)
      by is_none low live rows = let (u, c) = laws.there.empty in (u, laws.commute.empty u c, from_none c)
      by {k} (is_followed m t e b) low live rows =
          let whole : IsLiveHedge x.first (followed_by m t) = subst (IsLiveHedge x.first) e live in
          let front = laws.made.front m t whole in
          let last = laws.made.last m t whole in
          let count : node_count k ≡ node_count m + node_count (alone t) = ap node_count e ∙ laws.made.nodes m t in
          let (r, a, d) = rows m (omega (arith, low, count, some_node t)) front in
          let (s, c, f) = tree_comes t (λ w less. rows w (omega (arith, low, count, less))) last in
          let (u, v) = laws.there.appended r s a.row c.row in
          let row : IsRowOfHedge x (followed_by m t) u = laws.commute.appended m t r s u (normal_tree t last) a c v in
          (u, subst (λ w. IsRowOfHedge x w u) (sym e) row, subst (HedgeFrom x u) (sym count) (from_append {h = r} {u = u} {t = s} d f ((laws.commute.append_live m t r s front last a c).0 whole) v))

  pub live_hedge_from : (h : Trees) (r : HedgeRow) → IsLiveHedge x.first h → IsRowOfHedge x h r → HedgeFrom x r (node_count h)
  live_hedge_from h r l a = let (s, b, d) = hedge_comes (suc (node_count h)) h (omega arith) l in subst (λ w. HedgeFrom x w (node_count h)) (laws.one.hedges h s r b a) d

  pub live_tree_from : (t : Tree) (r : TreeRow) → IsLiveTree x.first t → IsRowOfTree x t r → TreeFrom x r (node_count (alone t))
  live_tree_from t r l a =
      let (s, b, d) = tree_comes t (λ h less. hedge_comes (suc (node_count h)) h (omega arith)) l in
      subst (λ w. TreeFrom x w (node_count (alone t))) (laws.one.trees t s r b a) d

  -- and what comes from rows is the row of a live tree, a plain one
  plain_beside : (h k : Trees) → ArePlain x h → ArePlain x k → ArePlain x (beside h k)
  plain_beside none k a b = b
  plain_beside (text s rest) k a b = (a.0, plain_beside rest k a.1 b)
  plain_beside (element n kids rest) k a b = (a.0, a.1, plain_beside rest k a.2 b)

  abbrev PlainHedge : HedgeRow → ℕ → Type 0
  PlainHedge r n = (h : Trees) × ArePlain x h × IsLiveHedge x.first h × IsRowOfHedge x h r × (node_count h ≡ n)

  mutual
    pub hedge_made : {r : HedgeRow} {n : ℕ} → HedgeFrom x r n → PlainHedge r n
    hedge_made (from_none {u} c) = (none, tt, laws.made.none_is_live, laws.commute.empty u c, refl)
    hedge_made (from_append {h} {u} {t} {m} {n} d f live c) =
        let (k, p, l, a, count) = hedge_made d in
        let (s, q, last, b, size) = tree_made f in
        (followed_by k s, plain_beside k (alone s) p q, (laws.commute.append_live k s h t l last a b).1 live, laws.commute.appended k s h t u (normal_tree s last) a b c, omega (arith, laws.made.nodes k s, count, size))

    pub tree_made : {r : TreeRow} {n : ℕ} → TreeFrom x r n → IsRowOfPlain x r n
    tree_made (from_text {u} live c) =
        let (lawful, ink) = laws.made.plain_text in
        (a_text (codes "t"), (refl, tt), (laws.commute.text_live (codes "t") lawful ink).1 live, laws.commute.text (codes "t") u ink c, omega arith)
    tree_made (from_wrap {a} {h} {u} {n} low d live c) =
        let (k, p, l, row, count) = hedge_made d in
        let (name, same) = laws.made.fresh a low in
        let own : IsLiveWrap x (symbol_of x.symbols (fresh_name x.symbols a)) h = subst (λ w. IsLiveWrap x w h) (sym same) live in (
          an_element (fresh_name x.symbols a) k,
          (ap (fresh_name x.symbols) (sym same), p, tt),
          (laws.commute.wrap_live (fresh_name x.symbols a) k h name l row).1 own,
          laws.commute.wrapped (fresh_name x.symbols a) k h u (normal_hedge l) row (subst (λ w. IsWrap x w h u) (sym same) c),
          omega (arith, count),
        )

  -- rows that fail and differences belong together
  fails_show : (r : TreeRow) (t : Tree) → IsLiveTree x.first t → IsRowOfTree x t r → IsFailing x r → IsDifference x.first x.second (alone t)
  fails_show r t l a (starts, fails) = ((laws.tell.first t r l.0 a).1 starts, λ valid. true≢false (sym ((laws.tell.second t r l.0 a).0 valid) ∙ fails))

  differences_fail : (doc : Trees) → IsDifference x.first x.second doc → (r : TreeRow) × TreeFrom x r (node_count doc) × IsFailing x r
  differences_fail doc (valid, bad) =
      let (t, e, l) = laws.tell.documents doc valid in
      let (r, a) = laws.there.trees t (normal_tree t l) in
      let fails : is_start x.second r.second ≡ false =
      elim (true_or_false (is_start x.second r.second)) [
        | inl starts ↦ absurd (bad (subst (IsValid x.second) (sym e) ((laws.tell.second t r l.0 a).1 starts)))
        | inr fails ↦ fails
      ]
      in
      (r, subst (λ w. TreeFrom x r (node_count w)) (sym e) (live_tree_from t r l a), ((laws.tell.first t r l.0 a).0 (subst (IsValid x.first) e valid), fails))

  included_passes : IsIncluded x.first x.second → (r : TreeRow) (n : ℕ) → TreeFrom x r n → ¬ IsFailing x r
  included_passes included r n d fails =
      let (t, p, l, a, count) = tree_made d in
      let (valid, bad) = fails_show r t l a fails in
      bad (included (alone t) valid)

  passes_included : ((r : TreeRow) (n : ℕ) → TreeFrom x r n → ¬ IsFailing x r) → IsIncluded x.first x.second
  passes_included pass doc valid =
      let (t, e, l) = laws.tell.documents doc valid in
      let (r, a) = laws.there.trees t (normal_tree t l) in
      elim (true_or_false (is_start x.second r.second)) [
        | inl starts ↦ subst (IsValid x.second) (sym e) ((laws.tell.second t r l.0 a).1 starts)
        | inr fails ↦ absurd (pass r (node_count (alone t)) (live_tree_from t r l a) ((laws.tell.first t r l.0 a).0 (subst (IsValid x.first) e valid), fails))
      ]

  least_shows : (r : TreeRow) (n : ℕ) → IsLeastFailing x r n → (t : Tree) → IsLiveTree x.first t → IsRowOfTree x t r → node_count (alone t) ≡ n → IsLeastDifference x.first x.second (alone t)
  least_shows r n c t l a count = record {
    differs = fails_show r t l a c.fails;
    least = λ other d. let (s, f, fails) = differences_fail other d in let low = c.least s (node_count other) f fails in omega (arith, low, count);
  }

  pub are_exact : AreExact x
  are_exact = record {
    trees = λ r n.
        (λ d. let (t, p, l, a, count) = tree_made d in (t, l, a, count), λ (t, l, a, count). subst (TreeFrom x r) count (live_tree_from t r l a));
    hedges = λ r n.
        (λ d. let (h, p, l, a, count) = hedge_made d in (h, l, a, count), λ (h, l, a, count). subst (HedgeFrom x r) count (live_hedge_from h r l a));
    plain = λ r n d. tree_made d;
    included = (included_passes, passes_included);
    shows = fails_show;
    failing = differences_fail;
    least = least_shows;
    large = λ most all doc d. let (r, f, fails) = differences_fail doc d in all r (node_count doc) f fails;
  }

pub derivations_are_exact : DerivationsAreExact
derivations_are_exact x are = are_exact x (rows_are_lawful x are)
