-- Numbers come from numbers as the rows that they stand for come from rows, at the same costs.
use Rattle.std.proofs.Common.{◌≡◌, ◌<◌, inl, inr, ◌+◌, ◌++◌, ℕ, List, length, get_or, Some, subst, sym, ap, ◌∙◌, Contains, arith, length-append}
use Rattle.std.proofs.Math.ListN.{get_or-append}
use Rattle.std.proofs.lemmas.List.Elements.{Contains-get_or}
use Rattle.std.proofs.lemmas.Option.{slice_get-get_or, get_or_from_slice_get}
use Rattle.tc_model.specs.Symbols.{symbol_count}
use Rattle.tc_rows.specs.Counts.{AreDifferent}
use Rattle.tc_settle.specs.Held.{IsExact, Grows}
use Rattle.tc_settle.specs.Derived as number
use Rattle.tc_settle.specs.Derived.{IsClosed, AllDerive}
use Rattle.tc_incl.specs.Schemas.{Schemas}
use Rattle.tc_incl.specs.Rows.{HedgeRow, TreeRow}
use Rattle.tc_incl.specs.Arithmetic.{IsEmptyRow, IsTextRow, IsAppend, IsLiveAppend, IsWrap, IsLiveWrap, IsFailing}
use Rattle.tc_incl.specs.Laws.{AreOne}
use Rattle.tc_incl.specs.Derivations as row
use Rattle.tc_incl.specs.Derivations.{from_none, from_append, from_text, from_wrap}
use Rattle.tc_incl.specs.Counts.{AreClosed}
use Rattle.tc_incl.specs.Covers.{State, no_hedge, no_tree, hedge_at, tree_at, held_of, Known}
use Rattle.tc_incl.proofs.One.{are_one}

-- within a list the default doesn't matter
pub at_any : {X : Type 0} (xs : List X) (c : X) (u : ℕ) (d : X) → u < length xs → get_or xs u c ≡ get_or xs u d
at_any xs c u d l = get_or_from_slice_get xs u (get_or xs u d) c (slice_get-get_or xs u d l)

-- no two places hold one row
apart : {X : Type 0} (xs : List X) (d : X) → AreDifferent xs → (i j : ℕ) → i < length xs → j < length xs → get_or xs i d ≡ get_or xs j d → i ≡ j
apart xs d different i j a b e = different i j (get_or xs i d) (slice_get-get_or xs i d a) (slice_get-get_or xs j d b ∙ ap Some (sym e))

module _ (IsOf : Schemas → Type 0) (s : State) (known : Known IsOf s) where
  abbrev x0 : Schemas
  x0 = known.some.0

  abbrev is0 : IsOf x0
  is0 = known.some.1

  same_hedge : (u v : ℕ) → u < length s.hedges → v < length s.hedges → hedge_at s u ≡ hedge_at s v → u ≡ v
  same_hedge u v a b e = apart s.hedges no_hedge known.hedges u v a b e

  same_tree : (u v : ℕ) → u < length s.trees → v < length s.trees → tree_at s u ≡ tree_at s v → u ≡ v
  same_tree u v a b e = apart s.trees no_tree known.trees u v a b e

  -- what is made has one number, and isn't dead
  pub are_exact : IsExact (held_of IsOf s)
  are_exact =
      let one : AreOne x0 = are_one x0 in
      record {
        one_none = λ u v a b. same_hedge u v a.0 b.0 (one.empty (hedge_at s u) (hedge_at s v) (a.1 x0 is0) (b.1 x0 is0));
        one_text = λ u v a b. same_tree u v a.0 b.0 (one.text (tree_at s u) (tree_at s v) (a.1 x0 is0).1 (b.1 x0 is0).1);
        one_append = λ h t u v lh lt a b. same_hedge u v a.0 b.0 (one.appended (hedge_at s h) (tree_at s t) (hedge_at s u) (hedge_at s v) (a.1 x0 is0).1 (b.1 x0 is0).1);
        one_wrap = λ n h u v ln lh a b. same_tree u v a.0 b.0 (one.wrapped n (hedge_at s h) (tree_at s u) (tree_at s v) (a.1 x0 is0).1 (b.1 x0 is0).1);
        live_text = λ u a dead. dead x0 is0 (a.1 x0 is0).0;
        live_append = λ h t u lh lt a dead. dead x0 is0 (a.1 x0 is0).0;
        live_wrap = λ n h u ln lh a dead. dead x0 is0 (a.1 x0 is0).0;
        fails_or_passes = λ t lt fails passes. passes x0 is0 (fails x0 is0);
      }

module _ (x : Schemas) (s : State) (IsOf : Schemas → Type 0) (is : IsOf x) (known : Known IsOf s) where
  low_symbol : (a : ℕ) → a < s.symbols → a < symbol_count x.symbols
  low_symbol a l = subst (λ n. a < n) (known.symbols x is) l

  high_symbol : (a : ℕ) → a < symbol_count x.symbols → a < s.symbols
  high_symbol a l = subst (λ n. a < n) (sym (known.symbols x is)) l

  -- what comes from numbers comes from rows
  mutual
    pub hedge_from : {u n : ℕ} → number.HedgeFrom (held_of IsOf s) u n → row.HedgeFrom x (hedge_at s u) n
    hedge_from (number.from_none at) = from_none (at.1 x is)
    hedge_from (number.from_append d e at) = let (live, app) = at.1 x is in from_append (hedge_from d) (tree_from e) live app

    pub tree_from : {u n : ℕ} → number.TreeFrom (held_of IsOf s) u n → row.TreeFrom x (tree_at s u) n
    tree_from (number.from_text at) = let (live, t) = at.1 x is in from_text live t
    tree_from (number.from_wrap {a} l d at) = let (live, w) = at.1 x is in from_wrap (low_symbol a l) (hedge_from d) live w

  -- rows that are held come from rows
  pub hedge_comes : AllDerive (held_of IsOf s) → (r : HedgeRow) → Contains s.hedges r → (n : ℕ) × row.HedgeFrom x r n
  hedge_comes all r (u, l, e) = let (n, d) = all.hedges u l in (n, subst (λ w. row.HedgeFrom x w n) (at_any s.hedges no_hedge u r l ∙ e) (hedge_from d))

  pub tree_comes : AllDerive (held_of IsOf s) → (r : TreeRow) → Contains s.trees r → (n : ℕ) × row.TreeFrom x r n
  tree_comes all r (u, l, e) = let (n, d) = all.trees u l in (n, subst (λ w. row.TreeFrom x w n) (at_any s.trees no_tree u r l ∙ e) (tree_from d))

  module _ (closed : IsClosed (held_of IsOf s)) where
    -- and where all is held, the other way round
    mutual
      pub hedge_number : {r : HedgeRow} {n : ℕ} → row.HedgeFrom x r n → (u : ℕ) × (u < length s.hedges) × (hedge_at s u ≡ r) × number.HedgeFrom (held_of IsOf s) u n
      hedge_number (from_none {u = r} e) = let (u, at) = closed.none in let one = are_one x in (u, at.0, one.empty (hedge_at s u) r (at.1 x is) e, number.from_none at)
      hedge_number (from_append {h} {u = r} {t} {m} {n} d e live app) = by (hedge_number d) (tree_number e)
        where
          by : ((i : ℕ) × (i < length s.hedges) × (hedge_at s i ≡ h) × number.HedgeFrom (held_of IsOf s) i m) → ((j : ℕ) × (j < length s.trees) × (tree_at s j ≡ t) × number.TreeFrom (held_of IsOf s) j n)
              → (u : ℕ) × (u < length s.hedges) × (hedge_at s u ≡ r) × number.HedgeFrom (held_of IsOf s) u (m + n)
          by (i, li, ei, di) (j, lj, ej, dj) =
              let live_there : IsLiveAppend x (hedge_at s i) (tree_at s j) = subst (λ p. IsLiveAppend x p (tree_at s j)) (sym ei) (subst (λ q. IsLiveAppend x h q) (sym ej) live) in
              let app_there : IsAppend x (hedge_at s i) (tree_at s j) r = subst (λ p. IsAppend x p (tree_at s j) r) (sym ei) (subst (λ q. IsAppend x h q r) (sym ej) app) in
              elim (closed.append i j li lj) [
                | inl dead ↦ absurd (dead x is live_there)
                | inr (u, at) ↦ let one = are_one x in (u, at.0, one.appended (hedge_at s i) (tree_at s j) (hedge_at s u) r (at.1 x is).1 app_there, number.from_append di dj at)
              ]

      pub tree_number : {r : TreeRow} {n : ℕ} → row.TreeFrom x r n → (u : ℕ) × (u < length s.trees) × (tree_at s u ≡ r) × number.TreeFrom (held_of IsOf s) u n
      tree_number (from_text {u = r} live t) = elim closed.text [
        | inl dead ↦ absurd (dead x is live)
        | inr (u, at) ↦ let one = are_one x in (u, at.0, one.text (tree_at s u) r (at.1 x is).1 t, number.from_text at)
      ]
      tree_number (from_wrap {a} {h} {u = r} {n} l d live w) = by (hedge_number d)
        where
          by : ((i : ℕ) × (i < length s.hedges) × (hedge_at s i ≡ h) × number.HedgeFrom (held_of IsOf s) i n) → (u : ℕ) × (u < length s.trees) × (tree_at s u ≡ r) × number.TreeFrom (held_of IsOf s) u (n + 1)
          by (i, li, ei, di) =
              let live_there : IsLiveWrap x a (hedge_at s i) = subst (λ p. IsLiveWrap x a p) (sym ei) live in
              let wrap_there : IsWrap x a (hedge_at s i) r = subst (λ p. IsWrap x a p r) (sym ei) w in
              elim (closed.wrap a i (high_symbol a l) li) [
                | inl dead ↦ absurd (dead x is live_there)
                | inr (u, at) ↦ let one = are_one x in (u, at.0, one.wrapped a (hedge_at s i) (tree_at s u) r (at.1 x is).1 wrap_there, number.from_wrap (high_symbol a l) di at)
              ]

    -- the lists of rows are closed
    pub are_closed : AllDerive (held_of IsOf s) → AreClosed x s.trees s.hedges
    are_closed all = record {
      empty = λ u e. let (v, l, same, d) = hedge_number (from_none e) in subst (Contains s.hedges) same (Contains-get_or s.hedges v no_hedge l);
      text = λ live u t. let (v, l, same, d) = tree_number (from_text live t) in subst (Contains s.trees) same (Contains-get_or s.trees v no_tree l);
      append = λ h u t ch ct live app.
          let (m, d) = hedge_comes all h ch in
          let (n, e) = tree_comes all t ct in
          let (v, l, same, f) = hedge_number (from_append d e live app) in
          subst (Contains s.hedges) same (Contains-get_or s.hedges v no_hedge l);
      wrap = λ a h u la ch live w.
          let (m, d) = hedge_comes all h ch in
          let (v, l, same, f) = tree_number (from_wrap la d live w) in
          subst (Contains s.trees) same (Contains-get_or s.trees v no_tree l);
    }

-- what is held goes on standing for what it stood for where rows come on
module _ (a b : State) (symbols : b.symbols ≡ a.symbols) (hs : List HedgeRow) (hedges : b.hedges ≡ a.hedges ++ hs) (ts : List TreeRow) (trees : b.trees ≡ a.trees ++ ts) where
  hedge_same : (u : ℕ) → u < length a.hedges → hedge_at b u ≡ hedge_at a u
  hedge_same u low = ap (λ l. get_or l u no_hedge) hedges ∙ get_or-append a.hedges hs no_hedge u low

  tree_same : (u : ℕ) → u < length a.trees → tree_at b u ≡ tree_at a u
  tree_same u low = ap (λ l. get_or l u no_tree) trees ∙ get_or-append a.trees ts no_tree u low

  pub grows : (IsOf : Schemas → Type 0) → Grows (held_of IsOf a) (held_of IsOf b)
  grows IsOf = record {
    trees = omega (arith, ap length trees, length-append a.trees ts);
    hedges = omega (arith, ap length hedges, length-append a.hedges hs);
    symbols = symbols;
    is_none = λ u lu f x is. subst (IsEmptyRow x) (sym (hedge_same u lu)) (f x is);
    is_text = λ u lu f x is. let (live, row) = f x is in (live, subst (IsTextRow x) (sym (tree_same u lu)) row);
    no_text = λ f x is. f x is;
    is_append = λ h t u lh lt lu f x is.
        let App : HedgeRow → TreeRow → HedgeRow → Type 0 = λ p q r. IsLiveAppend x p q × IsAppend x p q r in
        subst (λ p. App p (tree_at b t) (hedge_at b u)) (sym (hedge_same h lh)) (subst (λ q. App (hedge_at a h) q (hedge_at b u)) (sym (tree_same t lt)) (subst (λ r. App (hedge_at a h) (tree_at a t) r) (sym (hedge_same u lu)) (f x is)));
    no_append = λ h t lh lt f x is.
        subst (λ p. IsLiveAppend x p (tree_at b t) → ⊥) (sym (hedge_same h lh)) (subst (λ q. IsLiveAppend x (hedge_at a h) q → ⊥) (sym (tree_same t lt)) (f x is));
    is_wrap = λ n h u ln lh lu f x is.
        let Wrap : HedgeRow → TreeRow → Type 0 = λ p r. IsLiveWrap x n p × IsWrap x n p r in
        subst (λ p. Wrap p (tree_at b u)) (sym (hedge_same h lh)) (subst (λ r. Wrap (hedge_at a h) r) (sym (tree_same u lu)) (f x is));
    no_wrap = λ n h ln lh f x is. subst (λ p. IsLiveWrap x n p → ⊥) (sym (hedge_same h lh)) (f x is);
    fails = λ t lt f x is. subst (IsFailing x) (sym (tree_same t lt)) (f x is);
    passes = λ t lt f x is. subst (λ r. IsFailing x r → ⊥) (sym (tree_same t lt)) (f x is);
  }
