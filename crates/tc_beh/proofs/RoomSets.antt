-- The pairs of a matrix, in order, and rooms as rows of the triple.
use Rattle.std.proofs.Common.{◌≡◌, ◌<◌, inl, inr, ◌++◌, ◌∷◌, [], ℕ, zero, suc, List, map, flat_map, subst, sym, ap, ◌∙◌, refl, arith}
use Rattle.std.specs.List.Sorted.{IsStrictlySortedBy}
use Rattle.std.specs.Ordering.{nat_cmp, ordering_then}
use Rattle.std.specs.declared.cmp.Ordering.{Ordering}
use Rattle.std.specs.declared.cmp.Ordering.TheVariants.{Less, Equal}
use Rattle.std.proofs.lemmas.List.Kept.{IsStrictlySortedBy-filter}
use Rattle.tc_model.specs.Numbered.{numbers_below}
use Rattle.tc_alpha.proofs.Members.{Has, has_either, every_from_members, every_member, every_append}
use Rattle.tc_mat.specs.Matrix.{Matrix}
use Rattle.tc_mat.proofs.CallerLemmas.{HasPair-below}
use Rattle.tc_rows.specs.PairSets.{pair_cmp, IsPairs}
use Rattle.tc_beh.specs.Places.{pairs_of, all_pairs, is_pair}
use Rattle.tc_beh.proofs.Pairs.{listed_pairs}

module _ {X : Type 0} (R : X → X → Ordering) where
  -- two lists in order, the one before the other
  pub ascend_then : (xs ys : List X) → IsStrictlySortedBy R xs → IsStrictlySortedBy R ys → ((a b : X) → Has xs a → Has ys b → R a b ≡ Less) → IsStrictlySortedBy R (xs ++ ys)
  unfolding IsStrictlySortedBy
  ascend_then [] ys s t less = t
  ascend_then (x ∷ xs) ys s t less =
      (every_append (λ y. R x y ≡ Less) xs ys s.0 (every_from_members (λ y. R x y ≡ Less) ys (λ y h. less x y (inl refl) h)), ascend_then xs ys s.1 t (λ a b h k. less a b (inr h) k))

  pub ascend_one : (x : X) → IsStrictlySortedBy R (x ∷ [])
  unfolding IsStrictlySortedBy
  ascend_one x = (tt, tt)

  pub ascend_none : IsStrictlySortedBy R []
  unfolding IsStrictlySortedBy
  ascend_none = tt

less_is : (a b : ℕ) → a < b → nat_cmp a b ≡ Less
less_is a b h = grind arith

below_number : (n k : ℕ) → Has (numbers_below n) k → k < n
below_number zero k h = absurd h
below_number (suc n) k h = elim (has_either (numbers_below n) (n ∷ []) k h) [ inl a ↦ let l = below_number n k a in omega (arith, l) | inr b ↦ last b ]
  where
    last : Has (n ∷ []) k → k < suc n
    last (inl e) = omega (arith, e)
    last (inr f) = absurd f

pub numbers_ascend : (n : ℕ) → IsStrictlySortedBy nat_cmp (numbers_below n)
numbers_ascend zero = ascend_none nat_cmp
numbers_ascend (suc n) = ascend_then nat_cmp (numbers_below n) (n ∷ []) (numbers_ascend n) (ascend_one nat_cmp n) less
  where
    less : (a b : ℕ) → Has (numbers_below n) a → Has (n ∷ []) b → nat_cmp a b ≡ Less
    less a b h (inl e) = let l = below_number n a h in less_is a b (omega (arith, l, e))
    less a b h (inr f) = absurd f

abbrev pairs_with : ℕ → List ℕ → List (ℕ × ℕ)
pairs_with i js = map (λ j. let p : ℕ × ℕ = (i, j) in p) js

has_with : (i : ℕ) (js : List ℕ) (p : ℕ × ℕ) → Has (pairs_with i js) p → (p.0 ≡ i) × Has js p.1
has_with i [] p h = absurd h
has_with i (j ∷ js) p (inl e) = (ap (λ (q : ℕ × ℕ). q.0) (sym e), inl (ap (λ (q : ℕ × ℕ). q.1) e))
has_with i (j ∷ js) p (inr h) = let (a, b) = has_with i js p h in (a, inr b)

has_first : (is js : List ℕ) (p : ℕ × ℕ) → Has (flat_map (λ i. pairs_with i js) is) p → Has is p.0
has_first [] js p h = absurd h
has_first (i ∷ is) js p h = elim (has_either (pairs_with i js) (flat_map (λ i. pairs_with i js) is) p h) [ inl a ↦ inl (sym (has_with i js p a).0) | inr b ↦ inr (has_first is js p b) ]

first_less : (p q : ℕ × ℕ) → nat_cmp p.0 q.0 ≡ Less → pair_cmp p q ≡ Less
first_less p q h = ap (λ o. ordering_then o (nat_cmp p.1 q.1)) h

second_less : (p q : ℕ × ℕ) → p.0 ≡ q.0 → nat_cmp p.1 q.1 ≡ Less → pair_cmp p q ≡ Less
second_less p q e h = ap (λ o. ordering_then o (nat_cmp p.1 q.1)) (same p.0 q.0 e) ∙ h
  where
    same : (a b : ℕ) → a ≡ b → nat_cmp a b ≡ Equal
    same a b e = grind arith

with_ascend : (i : ℕ) (js : List ℕ) → IsStrictlySortedBy nat_cmp js → IsStrictlySortedBy pair_cmp (pairs_with i js)
unfolding IsStrictlySortedBy
with_ascend i [] s = tt
with_ascend i (j ∷ js) s =
    let first : ℕ × ℕ = (i, j) in
    (every_from_members (λ y. pair_cmp first y ≡ Less) (pairs_with i js) (λ y h. second_less first y (sym (has_with i js y h).0) (every_member (λ k. nat_cmp j k ≡ Less) js y.1 s.0 (has_with i js y h).1)), with_ascend i js s.1)

pairs_ascend : (is js : List ℕ) → IsStrictlySortedBy nat_cmp is → IsStrictlySortedBy nat_cmp js → IsStrictlySortedBy pair_cmp (flat_map (λ i. pairs_with i js) is)
unfolding IsStrictlySortedBy
pairs_ascend [] js s t = tt
pairs_ascend (i ∷ is) js s t =
    ascend_then pair_cmp (pairs_with i js) (flat_map (λ i. pairs_with i js) is) (with_ascend i js t) (pairs_ascend is js s.1 t)
    (λ a b h k. first_less a b (subst (λ n. nat_cmp n b.0 ≡ Less) (sym (has_with i js a h).0) (every_member (λ n. nat_cmp i n ≡ Less) is b.0 s.0 (has_first is js b k))))

-- the pairs of a matrix ascend, and are below its size
pub are_pairs : (m : Matrix) (n : ℕ) → m.size ≡ n → IsPairs n (pairs_of m)
unfolding pairs_of
are_pairs m n e = record {
  ascend = IsStrictlySortedBy-filter pair_cmp (is_pair m) (all_pairs m.size) (pairs_ascend (numbers_below m.size) (numbers_below m.size) (numbers_ascend m.size) (numbers_ascend m.size));
  within = λ i j c. let (a, b) = HasPair-below m i j ((listed_pairs m i j).1 c) in (omega (arith, a, e), omega (arith, b, e));
}
