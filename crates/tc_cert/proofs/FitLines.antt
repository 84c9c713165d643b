-- The first line that doesn't fit, line by line.
use Rattle.std.proofs.Common.{◌≡◌, ◌<◌, ◌≤◌, ◌+◌, ◌⊎◌, inl, inr, ℕ, zero, suc, List, [], ◌∷◌, ◌++◌, length, All, Option, Some, None, slice_get, Bool, true, false, map, refl, sym, ap, subst, ◌∙◌, arith}
use Rattle.std.proofs.lemmas.List.Elements.{All-append, All-head, All-tail}
use Rattle.tc_model.specs.declared.lists.TreeLine.{TreeLine}
use Rattle.tc_model.specs.declared.lists.HedgeLine.{HedgeLine}
use Rattle.tc_model.specs.CertificateFits.{Sizes, PairsFit, OutputFits, TreeFits, HedgeFits, AllFit, IsUnfit, IsFirstUnfit}
use Rattle.tc_cert.specs.Fits.{Told, data_of, told_with, RowFitsIn, rows_data}
use Rattle.tc_cert.specs.Fields.{Fields, tree_of, hedge_of}
use Rattle.tc_cert.specs.declared.rows.Kind.{Kind}
use Rattle.tc_cert.specs.declared.rows.Kind.TheVariants.{Tree, Hedge}
use Rattle.std.proofs.lemmas.List.{map-append, length-map}
use Rattle.tc_cert.proofs.Lists.{all_one}

none_some : {X : Type 0} (y : X) → None ≡ Some y → ⊥
none_some y e = cc

some_same : {X : Type 0} (x y : X) → Some x ≡ Some y → x ≡ y
some_same x y e = cc

all_none : {X : Type 0} (P : X → Type 0) → All P []
all_none P k d h = absurd (omega arith)

-- one of the lines from a number on
abbrev UnfitIn : {X : Type 0} → ℕ → (X → Type 0) → List X → ℕ → Type 0
UnfitIn {X} base P xs line = (k : ℕ) × (x : X) × (line ≡ base + k) × (slice_get xs k ≡ Some x) × ¬ P x

module _ {X : Type 0} (P : X → Type 0) where
  get_front : (xs : List X) (x y : X) (k : ℕ) → slice_get (xs ++ x ∷ []) k ≡ Some y → (slice_get xs k ≡ Some y) ⊎ ((k ≡ length xs) × (x ≡ y))
  get_front [] x y zero e = inr (refl, some_same x y e)
  get_front [] x y (suc k) e = absurd (none_some y e)
  get_front (z ∷ zs) x y zero e = inl e
  get_front (z ∷ zs) x y (suc k) e = by (get_front zs x y k e)
    where
      by : (slice_get zs k ≡ Some y) ⊎ ((k ≡ length zs) × (x ≡ y)) → (slice_get (z ∷ zs) (suc k) ≡ Some y) ⊎ ((suc k ≡ suc (length zs)) × (x ≡ y))
      by (inl a) = inl a
      by (inr a) = inr (ap suc a.0, a.1)

  get_more : (xs : List X) (x y : X) (k : ℕ) → slice_get xs k ≡ Some y → slice_get (xs ++ x ∷ []) k ≡ Some y
  get_more [] x y k e = absurd (none_some y e)
  get_more (z ∷ zs) x y zero e = e
  get_more (z ∷ zs) x y (suc k) e = get_more zs x y k e

  get_last : (xs : List X) (x : X) → slice_get (xs ++ x ∷ []) (length xs) ≡ Some x
  get_last [] x = refl
  get_last (z ∷ zs) x = get_last zs x

  get_within : (xs : List X) (k : ℕ) (y : X) → slice_get xs k ≡ Some y → k < length xs
  get_within [] k y e = absurd (none_some y e)
  get_within (z ∷ zs) zero y e = omega arith
  get_within (z ∷ zs) (suc k) y e = omega (arith, get_within zs k y e)

  get_all : (xs : List X) (k : ℕ) (y : X) → All P xs → slice_get xs k ≡ Some y → P y
  get_all [] k y a e = absurd (none_some y e)
  get_all (z ∷ zs) zero y a e = subst P (some_same z y e) (All-head P z zs a)
  get_all (z ∷ zs) (suc k) y a e = get_all zs k y (All-tail P z zs a) e

  pub all_fit : (base : ℕ) (xs : List X) (line : ℕ) → All P xs → UnfitIn base P xs line → ⊥
  all_fit base xs line a (k, x, e, g, bar) = bar (get_all xs k x a g)

  pub unfit_below : (base : ℕ) (xs : List X) (line : ℕ) → UnfitIn base P xs line → line < base + length xs
  unfit_below base xs line (k, x, e, g, bar) = omega (arith, e, get_within xs k x g)

  pub unfit_more : (base : ℕ) (xs : List X) (x : X) (line : ℕ) → UnfitIn base P xs line → UnfitIn base P (xs ++ x ∷ []) line
  unfit_more base xs x line (k, y, e, g, bar) = (k, y, e, get_more xs x y k g, bar)

  pub unfit_last : (base : ℕ) (xs : List X) (x : X) → ¬ P x → UnfitIn base P (xs ++ x ∷ []) (base + length xs)
  unfit_last base xs x bar = (length xs, x, refl, get_last xs x, bar)

  pub unfit_front : (base : ℕ) (xs : List X) (x : X) (line : ℕ) → UnfitIn base P (xs ++ x ∷ []) line → UnfitIn base P xs line ⊎ ((line ≡ base + length xs) × ¬ P x)
  unfit_front base xs x line (k, y, e, g, bar) = by (get_front xs x y k g)
    where
      by : (slice_get xs k ≡ Some y) ⊎ ((k ≡ length xs) × (x ≡ y)) → UnfitIn base P xs line ⊎ ((line ≡ base + length xs) × ¬ P x)
      by (inl a) = inl (k, y, e, a, bar)
      by (inr a) = inr (e ∙ ap (λ j. base + j) a.0, λ p. bar (subst P a.1 p))

nothing_unfit : {X : Type 0} (P : X → Type 0) (base line : ℕ) → UnfitIn base P [] line → ⊥
nothing_unfit P base line (k, x, e, g, bar) = none_some x g

module _ (s : Sizes) where
  pub told_nothing : Told s (data_of [] [] []) None
  told_nothing = record { outputs = all_none (OutputFits s (data_of [] [] [])); trees = all_none (TreeFits s (data_of [] [] [])); hedges = all_none (HedgeFits s (data_of [] [] [])) }

  -- one output more
  module _ (os : List (List (ℕ × ℕ))) (p : List (ℕ × ℕ)) where
    abbrev P : List (ℕ × ℕ) → Type 0
    P = PairsFit s.output_states

    pub output_fits : AllFit s (data_of os [] []) → PairsFit s.output_states p → AllFit s (data_of (os ++ p ∷ []) [] [])
    output_fits a f = record { outputs = All-append P os (p ∷ []) a.outputs (all_one P p f); trees = λ k d h. absurd (omega arith); hedges = λ k d h. absurd (omega arith) }

    pub output_unfit : AllFit s (data_of os [] []) → ¬ PairsFit s.output_states p → IsFirstUnfit s (data_of (os ++ p ∷ []) [] []) (3 + length os)
    output_unfit a bar = record { unfit = inl (unfit_last P 3 os p bar); least = least }
      where
        here : (l : ℕ) → UnfitIn 3 P os l ⊎ ((l ≡ 3 + length os) × ¬ P p) → 3 + length os ≤ l
        here l (inl u) = absurd (all_fit P 3 os l a.outputs u)
        here l (inr u) = omega (arith, u.0)

        least : (l : ℕ) → IsUnfit s (data_of (os ++ p ∷ []) [] []) l → 3 + length os ≤ l
        least l (inl u) = here l (unfit_front P 3 os p l u)
        least l (inr (inl u)) = absurd (nothing_unfit (TreeFits s (data_of (os ++ p ∷ []) [] [])) _ l u)
        least l (inr (inr u)) = absurd (nothing_unfit (HedgeFits s (data_of (os ++ p ∷ []) [] [])) _ l u)

    pub output_keeps : (line : ℕ) → IsFirstUnfit s (data_of os [] []) line → IsFirstUnfit s (data_of (os ++ p ∷ []) [] []) line
    output_keeps line f = record { unfit = moved f.unfit; least = least }
      where
        moved : IsUnfit s (data_of os [] []) line → IsUnfit s (data_of (os ++ p ∷ []) [] []) line
        moved (inl u) = inl (unfit_more P 3 os p line u)
        moved (inr (inl u)) = absurd (nothing_unfit (TreeFits s (data_of os [] [])) _ line u)
        moved (inr (inr u)) = absurd (nothing_unfit (HedgeFits s (data_of os [] [])) _ line u)

        below : IsUnfit s (data_of os [] []) line → line < 3 + length os
        below (inl u) = unfit_below P 3 os line u
        below (inr (inl u)) = absurd (nothing_unfit (TreeFits s (data_of os [] [])) _ line u)
        below (inr (inr u)) = absurd (nothing_unfit (HedgeFits s (data_of os [] [])) _ line u)

        here : (l : ℕ) → UnfitIn 3 P os l ⊎ ((l ≡ 3 + length os) × ¬ P p) → line ≤ l
        here l (inl u) = f.least l (inl u)
        here l (inr u) = omega (arith, u.0, below f.unfit)

        least : (l : ℕ) → IsUnfit s (data_of (os ++ p ∷ []) [] []) l → line ≤ l
        least l (inl u) = here l (unfit_front P 3 os p l u)
        least l (inr (inl u)) = absurd (nothing_unfit (TreeFits s (data_of (os ++ p ∷ []) [] [])) _ l u)
        least l (inr (inr u)) = absurd (nothing_unfit (HedgeFits s (data_of (os ++ p ∷ []) [] [])) _ l u)

  -- one tree more
  module _ (os : List (List (ℕ × ℕ))) (ts : List TreeLine) (t : TreeLine) where
    abbrev O : List (ℕ × ℕ) → Type 0
    O = PairsFit s.output_states

    abbrev T : TreeLine → Type 0
    T = TreeFits s (data_of os ts [])

    pub tree_fits : AllFit s (data_of os ts []) → T t → AllFit s (data_of os (ts ++ t ∷ []) [])
    tree_fits a f = record { outputs = a.outputs; trees = All-append T ts (t ∷ []) a.trees (all_one T t f); hedges = λ k d h. absurd (omega arith) }

    pub tree_unfit : AllFit s (data_of os ts []) → ¬ T t → IsFirstUnfit s (data_of os (ts ++ t ∷ []) []) (4 + length os + length ts)
    tree_unfit a bar = record { unfit = inr (inl (unfit_last T (4 + length os) ts t bar)); least = least }
      where
        here : (l : ℕ) → UnfitIn (4 + length os) T ts l ⊎ ((l ≡ 4 + length os + length ts) × ¬ T t) → 4 + length os + length ts ≤ l
        here l (inl u) = absurd (all_fit T (4 + length os) ts l a.trees u)
        here l (inr u) = omega (arith, u.0)

        least : (l : ℕ) → IsUnfit s (data_of os (ts ++ t ∷ []) []) l → 4 + length os + length ts ≤ l
        least l (inl u) = absurd (all_fit O 3 os l a.outputs u)
        least l (inr (inl u)) = here l (unfit_front T (4 + length os) ts t l u)
        least l (inr (inr u)) = absurd (nothing_unfit (HedgeFits s (data_of os (ts ++ t ∷ []) [])) _ l u)

    pub tree_keeps : (line : ℕ) → IsFirstUnfit s (data_of os ts []) line → IsFirstUnfit s (data_of os (ts ++ t ∷ []) []) line
    tree_keeps line f = record { unfit = moved f.unfit; least = least }
      where
        moved : IsUnfit s (data_of os ts []) line → IsUnfit s (data_of os (ts ++ t ∷ []) []) line
        moved (inl u) = inl u
        moved (inr (inl u)) = inr (inl (unfit_more T (4 + length os) ts t line u))
        moved (inr (inr u)) = absurd (nothing_unfit (HedgeFits s (data_of os ts [])) _ line u)

        below : IsUnfit s (data_of os ts []) line → line ≤ 4 + length os + length ts
        below (inl u) = omega (arith, unfit_below O 3 os line u)
        below (inr (inl u)) = omega (arith, unfit_below T (4 + length os) ts line u)
        below (inr (inr u)) = absurd (nothing_unfit (HedgeFits s (data_of os ts [])) _ line u)

        here : (l : ℕ) → UnfitIn (4 + length os) T ts l ⊎ ((l ≡ 4 + length os + length ts) × ¬ T t) → line ≤ l
        here l (inl u) = f.least l (inr (inl u))
        here l (inr u) = omega (arith, u.0, below f.unfit)

        least : (l : ℕ) → IsUnfit s (data_of os (ts ++ t ∷ []) []) l → line ≤ l
        least l (inl u) = f.least l (inl u)
        least l (inr (inl u)) = here l (unfit_front T (4 + length os) ts t l u)
        least l (inr (inr u)) = absurd (nothing_unfit (HedgeFits s (data_of os (ts ++ t ∷ []) [])) _ l u)

  -- one list of trees more
  module _ (os : List (List (ℕ × ℕ))) (ts : List TreeLine) (hs : List HedgeLine) (t : HedgeLine) where
    abbrev OutputsFit : List (ℕ × ℕ) → Type 0
    OutputsFit = PairsFit s.output_states

    abbrev TreesFit : TreeLine → Type 0
    TreesFit = TreeFits s (data_of os ts hs)

    abbrev HedgesFit : HedgeLine → Type 0
    HedgesFit = HedgeFits s (data_of os ts hs)

    abbrev base : ℕ
    base = 5 + length os + length ts

    pub hedge_fits : AllFit s (data_of os ts hs) → HedgesFit t → AllFit s (data_of os ts (hs ++ t ∷ []))
    hedge_fits a f = record { outputs = a.outputs; trees = a.trees; hedges = All-append HedgesFit hs (t ∷ []) a.hedges (all_one HedgesFit t f) }

    pub hedge_unfit : AllFit s (data_of os ts hs) → ¬ HedgesFit t → IsFirstUnfit s (data_of os ts (hs ++ t ∷ [])) (base + length hs)
    hedge_unfit a bar = record { unfit = inr (inr (unfit_last HedgesFit base hs t bar)); least = least }
      where
        here : (l : ℕ) → UnfitIn base HedgesFit hs l ⊎ ((l ≡ base + length hs) × ¬ HedgesFit t) → base + length hs ≤ l
        here l (inl u) = absurd (all_fit HedgesFit base hs l a.hedges u)
        here l (inr u) = omega (arith, u.0)

        least : (l : ℕ) → IsUnfit s (data_of os ts (hs ++ t ∷ [])) l → base + length hs ≤ l
        least l (inl u) = absurd (all_fit OutputsFit 3 os l a.outputs u)
        least l (inr (inl u)) = absurd (all_fit TreesFit (4 + length os) ts l a.trees u)
        least l (inr (inr u)) = here l (unfit_front HedgesFit base hs t l u)

    pub hedge_keeps : (line : ℕ) → IsFirstUnfit s (data_of os ts hs) line → IsFirstUnfit s (data_of os ts (hs ++ t ∷ [])) line
    hedge_keeps line f = record { unfit = moved f.unfit; least = least }
      where
        moved : IsUnfit s (data_of os ts hs) line → IsUnfit s (data_of os ts (hs ++ t ∷ [])) line
        moved (inl u) = inl u
        moved (inr (inl u)) = inr (inl u)
        moved (inr (inr u)) = inr (inr (unfit_more HedgesFit base hs t line u))

        below : IsUnfit s (data_of os ts hs) line → line ≤ base + length hs
        below (inl u) = omega (arith, unfit_below OutputsFit 3 os line u)
        below (inr (inl u)) = omega (arith, unfit_below TreesFit (4 + length os) ts line u)
        below (inr (inr u)) = omega (arith, unfit_below HedgesFit base hs line u)

        here : (l : ℕ) → UnfitIn base HedgesFit hs l ⊎ ((l ≡ base + length hs) × ¬ HedgesFit t) → line ≤ l
        here l (inl u) = f.least l (inr (inr u))
        here l (inr u) = omega (arith, u.0, below f.unfit)

        least : (l : ℕ) → IsUnfit s (data_of os ts (hs ++ t ∷ [])) l → line ≤ l
        least l (inl u) = f.least l (inl u)
        least l (inr (inl u)) = f.least l (inr (inl u))
        least l (inr (inr u)) = here l (unfit_front HedgesFit base hs t l u)

-- one line more, by what is known of it
pub output_told : (s : Sizes) (os : List (List (ℕ × ℕ))) (p : List (ℕ × ℕ)) (told : Option ℕ) (fits : Bool) → ((fits ≡ true → PairsFit s.output_states p) × (PairsFit s.output_states p → fits ≡ true)) → Told s (data_of os [] []) told
    → Told s (data_of (os ++ p ∷ []) [] []) (told_with told fits (3 + length os))
output_told s os p (Some line) fits h t = output_keeps s os p line t
output_told s os p None true h t = output_fits s os p t (h.0 refl)
output_told s os p None false h t = output_unfit s os p t (λ f. apart (h.1 f))
  where
    apart : false ≡ true → ⊥
    apart e = cc

tree_told : (s : Sizes) (os : List (List (ℕ × ℕ))) (ts : List TreeLine) (t : TreeLine) (told : Option ℕ) (fits : Bool) → ((fits ≡ true → TreeFits s (data_of os ts []) t) × (TreeFits s (data_of os ts []) t → fits ≡ true)) → Told s (data_of os ts []) told
    → Told s (data_of os (ts ++ t ∷ []) []) (told_with told fits (4 + length os + length ts))
tree_told s os ts t (Some line) fits h k = tree_keeps s os ts t line k
tree_told s os ts t None true h k = tree_fits s os ts t k (h.0 refl)
tree_told s os ts t None false h k = tree_unfit s os ts t k (λ f. apart (h.1 f))
  where
    apart : false ≡ true → ⊥
    apart e = cc

hedge_told : (s : Sizes) (os : List (List (ℕ × ℕ))) (ts : List TreeLine) (hs : List HedgeLine) (t : HedgeLine) (told : Option ℕ) (fits : Bool) → ((fits ≡ true → HedgeFits s (data_of os ts hs) t) × (HedgeFits s (data_of os ts hs) t → fits ≡ true))
    → Told s (data_of os ts hs) told → Told s (data_of os ts (hs ++ t ∷ [])) (told_with told fits (5 + length os + length ts + length hs))
hedge_told s os ts hs t (Some line) fits h k = hedge_keeps s os ts hs t line k
hedge_told s os ts hs t None true h k = hedge_fits s os ts hs t k (h.0 refl)
hedge_told s os ts hs t None false h k = hedge_unfit s os ts hs t k (λ f. apart (h.1 f))
  where
    apart : false ≡ true → ⊥
    apart e = cc

abbrev pub place_of : Kind → List (List (ℕ × ℕ)) → List TreeLine → List Fields → ℕ
place_of Tree os ts rows = 4 + length os + length rows
place_of Hedge os ts rows = 5 + length os + length ts + length rows

pub row_told : (s : Sizes) (k : Kind) (os : List (List (ℕ × ℕ))) (ts : List TreeLine) (rows : List Fields) (f : Fields) (told : Option ℕ) (fits : Bool) → ((fits ≡ true → RowFitsIn s (length os) k f) × (RowFitsIn s (length os) k f → fits ≡ true))
    → Told s (rows_data k os ts rows) told → Told s (rows_data k os ts (rows ++ f ∷ [])) (told_with told fits (place_of k os ts rows))
row_told s Tree os ts rows f told fits h t =
    let long : length (map tree_of rows) ≡ length rows = length-map rows tree_of in
    subst (λ xs. Told s (data_of os xs []) (told_with told fits (4 + length os + length rows))) (sym (map-append tree_of rows (f ∷ [])))
    (subst (λ n. Told s (data_of os (map tree_of rows ++ tree_of f ∷ []) []) (told_with told fits (4 + length os + n))) long (tree_told s os (map tree_of rows) (tree_of f) told fits h t))
row_told s Hedge os ts rows f told fits h t =
    let long : length (map hedge_of rows) ≡ length rows = length-map rows hedge_of in
    subst (λ xs. Told s (data_of os ts xs) (told_with told fits (5 + length os + length ts + length rows))) (sym (map-append hedge_of rows (f ∷ [])))
    (subst (λ n. Told s (data_of os ts (map hedge_of rows ++ hedge_of f ∷ [])) (told_with told fits (5 + length os + length ts + n))) long (hedge_told s os ts (map hedge_of rows) (hedge_of f) told fits h t))
