-- Names that differ from one another.
use Rattle.std.proofs.Common.{◌≡◌, ℕ, suc, ◌+◌, ◌-◌, ◌<◌, ◌≤◌, Bool, true, false, cond, ◌&&◌, List, [], ◌∷◌, refl, ap, ◌∙◌, sym, subst, length, drop, get_or, bytes_eq, arith, length-drop, MatchBool}
use Rattle.std.specs.Prelude.{zero}
use Rattle.std.specs.Cmp.{IsTotalOrder, tied_then}
use Rattle.std.specs.Cmp.Lexicographic.{slice_cmp}
use Rattle.std.specs.List.{IsDistinct, AllByRecursion, dedup, dedup_from}
use Rattle.std.specs.List.Sorted.{IsSorted, IsPermutation, IsStrictlySortedBy}
use Rattle.std.specs.Ordering.{nat_cmp, ordering_then, eq_by_cmp, is_eq}
use Rattle.std.specs.declared.cmp.Ordering.{Ordering}
use Rattle.std.proofs.lemmas.Cmp.{on_total, then_total, nat_list_cmp_total}
use Rattle.std.proofs.lemmas.List.Kept.{IsStrictlySortedBy-dedup}
use Rattle.std.proofs.lemmas.List.Sorted.{IsPermutation-sym}
use Rattle.std.proofs.lemmas.Map.Keys.{IsDistinct-from_sorted, IsDistinct-IsPermutation}
use Rattle.std.proofs.lemmas.Map.Text.{is_eq-slice_cmp}
use Rattle.std.proofs.lemmas.Bool.{true≢false, false_from_ne_true}
use Rattle.std.specs.Cmp.Lexicographic.{bytes_decides}
use Rattle.std.proofs.lemmas.List.{drop_more, drop_all}
use Rattle.tc_tags.specs.Pairs.{Pair, Differs, AreApart, same_pair}

-- equality of bytes, turned round
bytes_eq_turned : (a b : List ℕ) → bytes_eq a b ≡ bytes_eq b a
bytes_eq_turned a b = by (bytes_eq a b) refl
  where
    by : (x : Bool) → bytes_eq a b ≡ x → bytes_eq a b ≡ bytes_eq b a
    by true e = e ∙ sym ((bytes_decides b a).1 (sym ((bytes_decides a b).0 e)))
    by false e = e ∙ sym (false_from_ne_true (bytes_eq b a) (λ f. true≢false (sym ((bytes_decides a b).1 (sym ((bytes_decides b a).0 f))) ∙ e)))

pub same_pair_turned : (p q : Pair) → same_pair p q ≡ same_pair q p
same_pair_turned p q = ap (λ x. x && bytes_eq p.1.now q.1.now) (bytes_eq_turned p.0.now q.0.now) ∙ ap (λ x. bytes_eq q.0.now p.0.now && x) (bytes_eq_turned p.1.now q.1.now)

-- what a slice gives past its end
abbrev pub blank : Pair
blank = (record { ref_ptr = (0, 0); now = [] }, record { ref_ptr = (0, 0); now = [] })

-- one more name that is not among those after it
pub differs_more : (names : List Pair) (i : ℕ) (d : Pair) → i < length names → AllByRecursion (Differs (get_or names i d)) (drop (i + 1) names) → IsDistinct same_pair (drop (i + 1) names) → IsDistinct same_pair (drop i names)
unfolding IsDistinct
differs_more names i d l h k = subst (IsDistinct same_pair) (sym (drop_more names i d l)) (h, k)

pub differs_after : (names : List Pair) (i : ℕ) (d : Pair) → i < length names → IsDistinct same_pair (drop i names) → AllByRecursion (Differs (get_or names i d)) (drop (i + 1) names) × IsDistinct same_pair (drop (i + 1) names)
unfolding IsDistinct
differs_after names i d l h = subst (IsDistinct same_pair) (drop_more names i d l) h

pub none_differ : (names : List Pair) (i : ℕ) → length names ≤ i → IsDistinct same_pair (drop i names)
unfolding IsDistinct
none_differ names i l = subst (IsDistinct same_pair) (sym (drop_all i names l)) tt

-- one name that this one differs from
pub all_more : (P : Pair → Type 0) (names : List Pair) (i : ℕ) (d : Pair) → i < length names → P (get_or names i d) → AllByRecursion P (drop (i + 1) names) → AllByRecursion P (drop i names)
all_more P names i d l h k = subst (AllByRecursion P) (sym (drop_more names i d l)) (h, k)

pub all_after : (P : Pair → Type 0) (names : List Pair) (i : ℕ) (d : Pair) → i < length names → AllByRecursion P (drop i names) → P (get_or names i d) × AllByRecursion P (drop (i + 1) names)
all_after P names i d l h = subst (AllByRecursion P) (drop_more names i d l) h

pub all_none : (P : Pair → Type 0) (names : List Pair) (i : ℕ) → length names ≤ i → AllByRecursion P (drop i names)
all_none P names i l = subst (AllByRecursion P) (sym (drop_all i names l)) tt

-- names each of which differs from the one after it

pub within_pairs : (i n m : ℕ) → i < m → m ≡ n - 1 → i + 1 < n
within_pairs i zero m l e = omega (arith, l, e)
within_pairs i (suc n) m l e = omega (arith, l, e)

pub apart_more : (names : List Pair) (i : ℕ) (d : Pair) → i + 1 < length names → Differs (get_or names i d) (get_or names (i + 1) d) → AreApart (drop (i + 1) names) → AreApart (drop i names)
apart_more names i d l h k =
    let first = drop_more names i d (omega (arith, l)) in
    let second = drop_more names (i + 1) d l in
    subst AreApart (sym (first ∙ ap (λ w. get_or names i d ∷ w) second)) (h, subst AreApart second k)

pub apart_after : (names : List Pair) (i : ℕ) (d : Pair) → i + 1 < length names → AreApart (drop i names) → Differs (get_or names i d) (get_or names (i + 1) d) × AreApart (drop (i + 1) names)
apart_after names i d l h =
    let first = drop_more names i d (omega (arith, l)) in
    let second = drop_more names (i + 1) d l in
    let both = subst AreApart (first ∙ ap (λ w. get_or names i d ∷ w) second) h in
    (both.0, subst AreApart (sym second) both.1)

short_apart : (names : List Pair) → length names ≤ 1 → AreApart names
short_apart [] l = tt
short_apart (x ∷ []) l = tt
short_apart (x ∷ y ∷ names) l = absurd (omega (arith, l))

pub apart_end : (names : List Pair) (i m : ℕ) → m ≤ i → m ≡ length names - 1 → AreApart (drop i names)
apart_end names i m l e = short_apart (drop i names) (omega (arith, l, e, length-drop i names))

-- the order of names
abbrev pub pair_cmp : Pair → Pair → Ordering
pair_cmp p q = ordering_then (slice_cmp nat_cmp p.0.now q.0.now) (slice_cmp nat_cmp p.1.now q.1.now)

pairs_total : IsTotalOrder pair_cmp
pairs_total = then_total (on_total (λ (p : Pair). p.0.now) nat_list_cmp_total) (on_total (λ (p : Pair). p.1.now) nat_list_cmp_total)

pairs_tie : (p q : Pair) → same_pair p q ≡ eq_by_cmp pair_cmp p q
pairs_tie p q =
    ap (λ x. x && bytes_eq p.1.now q.1.now) (sym (is_eq-slice_cmp p.0.now q.0.now))
    ∙ (ap (λ x. is_eq (slice_cmp nat_cmp p.0.now q.0.now) && x) (sym (is_eq-slice_cmp p.1.now q.1.now)) ∙ tied_then (slice_cmp nat_cmp p.0.now q.0.now) (slice_cmp nat_cmp p.1.now q.1.now))

none_dropped : (k : Pair) (names : List Pair) → AreApart (k ∷ names) → dedup_from same_pair k names ≡ k ∷ names
none_dropped k [] h = refl
none_dropped k (x ∷ names) h =
    ap (λ b. cond b (dedup_from same_pair k names) (k ∷ dedup_from same_pair x names)) (same_pair_turned x k ∙ h.0) ∙ ap (λ w. k ∷ w) (none_dropped x names h.1)

all_stay : (names : List Pair) → AreApart names → dedup same_pair names ≡ names
all_stay [] h = refl
all_stay (x ∷ names) h = none_dropped x names h

all_alike : (x : Pair) (names : List Pair) → AllByRecursion (λ y. eq_by_cmp pair_cmp x y ≡ false) names → AllByRecursion (λ y. same_pair x y ≡ false) names
all_alike x [] h = tt
all_alike x (y ∷ names) h = (pairs_tie x y ∙ h.0, all_alike x names h.1)

distinct_alike : (names : List Pair) → IsDistinct (eq_by_cmp pair_cmp) names → IsDistinct same_pair names
unfolding IsDistinct
distinct_alike [] h = tt
distinct_alike (x ∷ names) h = (all_alike x names h.0, distinct_alike names h.1)

-- names in order, each of which differs from the one after it, all differ, and so do they in any order
pub apart_sorted : (old sorted : List Pair) → IsPermutation old sorted → IsSorted pair_cmp sorted → AreApart sorted → IsDistinct same_pair old
apart_sorted old sorted moved up apart =
    let rises = subst (IsStrictlySortedBy pair_cmp) (all_stay sorted apart) (IsStrictlySortedBy-dedup pairs_total pairs_tie sorted up) in
    IsDistinct-IsPermutation same_pair same_pair_turned sorted old (IsPermutation-sym old sorted moved) (distinct_alike sorted (IsDistinct-from_sorted pair_cmp sorted rises))

pub distinct_apart : (names : List Pair) → IsDistinct same_pair names → AreApart names
unfolding IsDistinct
distinct_apart [] h = tt
distinct_apart (x ∷ []) h = tt
distinct_apart (x ∷ y ∷ names) h = (h.0.0, distinct_apart (y ∷ names) h.1)

-- and where one is the same as the one after it, not all differ
pub sorted_told : (b : Bool) (old sorted : List Pair) → IsPermutation old sorted → IsSorted pair_cmp sorted → MatchBool b (AreApart sorted) (AreApart sorted → ⊥)
    → MatchBool b (IsDistinct same_pair old) (IsDistinct same_pair old → ⊥)
sorted_told true old sorted moved up h = apart_sorted old sorted moved up h
sorted_told false old sorted moved up h = λ d. h (distinct_apart sorted (IsDistinct-IsPermutation same_pair same_pair_turned old sorted moved d))
