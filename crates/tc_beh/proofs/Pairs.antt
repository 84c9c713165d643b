-- The pairs of a matrix as a list.
use Rattle.std.proofs.Common.{◌≡◌, ◌<◌, ◌⊎◌, inl, inr, ℕ, zero, suc, List, [], ◌∷◌, ◌++◌, map, filter, flat_map, Bool, true, false, refl, sym, subst, ap, ◌∙◌, arith, eq-eqb, eqb-true, if◌then◌else◌}
use Rattle.std.proofs.lemmas.Bool.{cases_order}
use Rattle.tc_model.specs.Numbered.{numbers_below}
use Rattle.tc_alpha.proofs.Members.{Has, has_from_contains, contains_from_has, has_front, has_back, has_either}
use Rattle.tc_mat.specs.Matrix.{Matrix, HasPair}
use Rattle.tc_rows.specs.PairSets.{HaveSamePairs, listed}
use Rattle.tc_beh.specs.Putting.{has}
use Rattle.tc_beh.specs.Places.{pairs_of, all_pairs, is_pair}

module _ {X : Type 0} (test : X → Bool) where
  filtered : (xs : List X) (y : X) → Has (filter test xs) y → Has xs y × (test y ≡ true)
  filtered [] y h = absurd h
  filtered (x ∷ xs) y h = by (test x) refl (λ k. filtered xs y k) h
    where
      by : (b : Bool) → test x ≡ b → (Has (filter test xs) y → Has xs y × (test y ≡ true)) → Has (if b then (x ∷ filter test xs) else filter test xs) y → Has (x ∷ xs) y × (test y ≡ true)
      by true e later (inl is) = (inl is, ap test (sym is) ∙ e)
      by true e later (inr k) = let (a, b) = later k in (inr a, b)
      by false e later k = let (a, b) = later k in (inr a, b)

  filters : (xs : List X) (y : X) → Has xs y → test y ≡ true → Has (filter test xs) y
  filters [] y h t = absurd h
  filters (x ∷ xs) y h t = by (test x) refl (λ k. filters xs y k t) h
    where
      by : (b : Bool) → test x ≡ b → (Has xs y → Has (filter test xs) y) → Has (x ∷ xs) y → Has (if b then (x ∷ filter test xs) else filter test xs) y
      by true e later (inl is) = inl is
      by true e later (inr k) = inr (later k)
      by false e later (inl is) = let f : test y ≡ false = ap test (sym is) ∙ e in absurd (cc)
      by false e later (inr k) = later k

has_number : (n k : ℕ) → k < n → Has (numbers_below n) k
has_number zero k h = absurd (omega arith)
has_number (suc n) k h = by (cases_order k n) (λ l. has_number n k l)
  where
    by : (k ≡ n) ⊎ ((k < n) ⊎ (n < k)) → (k < n → Has (numbers_below n) k) → Has (numbers_below n ++ n ∷ []) k
    by (inl e) later = has_back (numbers_below n) (n ∷ []) k (inl (sym e))
    by (inr (inl l)) later = has_front (numbers_below n) (n ∷ []) k (later l)
    by (inr (inr l)) later = absurd (omega (arith, h, l))

pairs_from : (i : ℕ) (js : List ℕ) (j : ℕ) → Has js j → Has (map (λ j. let p : ℕ × ℕ = (i, j) in p) js) (i, j)
pairs_from i [] j h = absurd h
pairs_from i (k ∷ js) j (inl e) = inl (ap (λ (n : ℕ). let p : ℕ × ℕ = (i, n) in p) e)
pairs_from i (k ∷ js) j (inr h) = inr (pairs_from i js j h)

pairs_in : (is js : List ℕ) (i j : ℕ) → Has is i → Has js j → Has (flat_map (λ i. map (λ j. let p : ℕ × ℕ = (i, j) in p) js) is) (i, j)
pairs_in [] js i j h k = absurd h
pairs_in (m ∷ is) js i j (inl e) k =
    has_front (map (λ j. let p : ℕ × ℕ = (m, j) in p) js) (flat_map (λ i. map (λ j. let p : ℕ × ℕ = (i, j) in p) js) is) (i, j)
    (subst (λ (n : ℕ). Has (map (λ j. let p : ℕ × ℕ = (n, j) in p) js) (i, j)) (sym e) (pairs_from i js j k))
pairs_in (m ∷ is) js i j (inr h) k =
    has_back (map (λ j. let p : ℕ × ℕ = (m, j) in p) js) (flat_map (λ i. map (λ j. let p : ℕ × ℕ = (i, j) in p) js) is) (i, j) (pairs_in is js i j h k)

low_in_map : (i : ℕ) (js : List ℕ) (n : ℕ) → ((j : ℕ) → Has js j → j < n) → (p : ℕ × ℕ) → Has (map (λ j. let p : ℕ × ℕ = (i, j) in p) js) p → (p.0 ≡ i) × (p.1 < n)
low_in_map i [] n l p h = absurd h
low_in_map i (k ∷ js) n l p (inl e) = (ap (λ (q : ℕ × ℕ). q.0) (sym e), subst (λ m. m < n) (ap (λ (q : ℕ × ℕ). q.1) e) (l k (inl refl)))
low_in_map i (k ∷ js) n l p (inr h) = low_in_map i js n (λ j m. l j (inr m)) p h

low_in_pairs : (is js : List ℕ) (n : ℕ) → ((i : ℕ) → Has is i → i < n) → ((j : ℕ) → Has js j → j < n) → (p : ℕ × ℕ) → Has (flat_map (λ i. map (λ j. let p : ℕ × ℕ = (i, j) in p) js) is) p → (p.0 < n) × (p.1 < n)
low_in_pairs [] js n l m p h = absurd h
low_in_pairs (k ∷ is) js n l m p h =
    elim (has_either (map (λ j. let p : ℕ × ℕ = (k, j) in p) js) (flat_map (λ i. map (λ j. let p : ℕ × ℕ = (i, j) in p) js) is) p h) [
      | inl a ↦ let (e, f) = low_in_map k js n m p a in (subst (λ w. w < n) (sym e) (l k (inl refl)), f)
      | inr b ↦ low_in_pairs is js n (λ i q. l i (inr q)) m p b
    ]

low_number : (n k : ℕ) → Has (numbers_below n) k → k < n
low_number zero k h = absurd h
low_number (suc n) k h = elim (has_either (numbers_below n) (n ∷ []) k h) [ inl a ↦ let l = low_number n k a in omega (arith, l) | inr b ↦ last b ]
  where
    last : Has (n ∷ []) k → k < suc n
    last (inl e) = omega (arith, e)
    last (inr f) = absurd f

-- exactly those of the matrix
pub listed_pairs : (m : Matrix) → HaveSamePairs (has m) (listed (pairs_of m))
unfolding pairs_of HasPair
listed_pairs m = λ i j. (
  λ (a, b, c).
      contains_from_has (filter (is_pair m) (all_pairs m.size)) (i, j)
      (filters (is_pair m) (all_pairs m.size) (i, j) (pairs_in (numbers_below m.size) (numbers_below m.size) i j (has_number m.size i a) (has_number m.size j b)) (eq-eqb _ _ c)),
  λ h.
      let (a, t) = filtered (is_pair m) (all_pairs m.size) (i, j) (has_from_contains (filter (is_pair m) (all_pairs m.size)) (i, j) h) in
      let (l, k) = low_in_pairs (numbers_below m.size) (numbers_below m.size) m.size (low_number m.size) (low_number m.size) (i, j) a in
      (l, k, eqb-true _ _ t),
)
