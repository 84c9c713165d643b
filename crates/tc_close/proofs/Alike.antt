-- Lists in one order that hold the same are equal.
use Rattle.std.proofs.Common.{◌≡◌, ◌<◌, ◌≤◌, inl, inr, ◌⊎◌, ℕ, zero, suc, List, [], ◌∷◌, refl, sym, ap, ◌∙◌, subst, map, length, get_or, All, arith}
use Rattle.std.specs.List.{Contains}
use Rattle.std.specs.List.Sorted.{IsStrictlySortedBy}
use Rattle.std.specs.Cmp.{IsTotalOrder}
use Rattle.std.specs.Cmp.Lexicographic.{slice_cmp}
use Rattle.std.specs.Ordering.{nat_cmp}
use Rattle.std.specs.declared.cmp.Ordering.{Ordering}
use Rattle.std.specs.declared.cmp.Ordering.TheVariants.{Less}
use Rattle.std.proofs.lemmas.Bool.{cases_lt}
use Rattle.std.proofs.lemmas.Cmp.{nat_list_cmp_total}
use Rattle.std.proofs.lemmas.List.{length-map, get_or-map}
use Rattle.std.proofs.lemmas.List.Elements.{All-get_or, All-tail}
use Rattle.std.proofs.lemmas.Map.Keys.{Less-from_sorted, sorted_tail}
use Rattle.tc_model.specs.CertificateData.{AreOrdered}
use Rattle.tc_close.proofs.Linked.{made_at, made_of}

module _ {K : Type 0} (c : K → K → Ordering) (total : IsTotalOrder c) where
  not_both : (x y : K) → c x y ≡ Less → c y x ≡ Less → ⊥
  not_both x y a b = let e = total.antisymm x y in absurd (cc)

  not_below_itself : (x : K) → c x x ≡ Less → ⊥
  not_below_itself x a = not_both x x a a

  -- what stands behind the first is above it
  above : (x : K) (xs : List K) → IsStrictlySortedBy c (x ∷ xs) → (z : K) → Contains xs z → c x z ≡ Less
  above x xs sorted z (k, low, at) = ap (c x) (sym at) ∙ Less-from_sorted c (x ∷ xs) zero (suc k) z sorted (omega arith) (omega (arith, low))

  head_or_tail : (x : K) (xs : List K) (z : K) → Contains (x ∷ xs) z → (x ≡ z) ⊎ Contains xs z
  head_or_tail x xs z (zero, low, at) = inl at
  head_or_tail x xs z (suc k, low, at) = inr (k, omega (arith, low), at)

  in_tail : (x : K) (xs : List K) (z : K) → Contains xs z → Contains (x ∷ xs) z
  in_tail x xs z (k, low, at) = (suc k, omega (arith, low), at)

  one_head : (x y : K) (xs ys : List K) → IsStrictlySortedBy c (x ∷ xs) → IsStrictlySortedBy c (y ∷ ys) → Contains (y ∷ ys) x → Contains (x ∷ xs) y → x ≡ y
  one_head x y xs ys p q there back = by (head_or_tail y ys x there) (head_or_tail x xs y back)
    where
      by : (y ≡ x) ⊎ Contains ys x → (x ≡ y) ⊎ Contains xs y → x ≡ y
      by (inl e) d = sym e
      by (inr d) (inl e) = e
      by (inr d) (inr e) = absurd (not_both y x (above y ys q x d) (above x xs p y e))

  rest_of : (x y : K) (xs ys : List K) → IsStrictlySortedBy c (x ∷ xs) → x ≡ y → ((z : K) → Contains (x ∷ xs) z → Contains (y ∷ ys) z) → (z : K) → Contains xs z → Contains ys z
  rest_of x y xs ys p same to z d = by (head_or_tail y ys z (to z (in_tail x xs z d)))
    where
      by : (y ≡ z) ⊎ Contains ys z → Contains ys z
      by (inl e) = absurd (not_below_itself z (subst (λ w. c w z ≡ Less) (same ∙ e) (above x xs p z d)))
      by (inr t) = t

  pub one_order : (xs ys : List K) → IsStrictlySortedBy c xs → IsStrictlySortedBy c ys → ((z : K) → Contains xs z → Contains ys z) → ((z : K) → Contains ys z → Contains xs z) → xs ≡ ys
  one_order [] [] p q to back = refl
  one_order [] (y ∷ ys) p q to back = let (k, low, at) = back y (zero, omega arith, refl) in absurd (omega (arith, low))
  one_order (x ∷ xs) [] p q to back = let (k, low, at) = to x (zero, omega arith, refl) in absurd (omega (arith, low))
  one_order (x ∷ xs) (y ∷ ys) p q to back =
      let first : x ≡ y = one_head x y xs ys p q (to x (zero, omega arith, refl)) (back y (zero, omega arith, refl)) in
      let rest : xs ≡ ys = one_order xs ys (sorted_tail c x xs p) (sorted_tail c y ys q) (rest_of x y xs ys p first to) (rest_of y x ys xs q (sym first) back) in
      cc

-- lists of which the same is worked out, where that tells their elements
module _ {X Y : Type 0} (f : X → Y) (P : X → Type 0) (one : (a b : X) → P a → P b → f a ≡ f b → a ≡ b) where
  head_same : {a b : Y} {us vs : List Y} → (a ∷ us) ≡ (b ∷ vs) → a ≡ b
  head_same e = cc

  tail_same : {a b : Y} {us vs : List Y} → (a ∷ us) ≡ (b ∷ vs) → us ≡ vs
  tail_same e = cc

  pub unmapped : (xs ys : List X) → All P xs → All P ys → map f xs ≡ map f ys → xs ≡ ys
  unmapped [] [] p q e = refl
  unmapped [] (y ∷ ys) p q e = absurd (cc)
  unmapped (x ∷ xs) [] p q e = absurd (cc)
  unmapped (x ∷ xs) (y ∷ ys) p q e =
      let first : x ≡ y = one x y (All-get_or P (x ∷ xs) zero x (omega arith) p) (All-get_or P (y ∷ ys) zero y (omega arith) q) (head_same e) in
      let rest : xs ≡ ys = unmapped xs ys (All-tail P x xs p) (All-tail P y ys q) (tail_same e) in
      cc

-- lists in the order of their lines
module _ {X : Type 0} (bytes : X → List ℕ) (P : X → Type 0) (one : (a b : X) → P a → P b → bytes a ≡ bytes b → a ≡ b) where
  mapped_in : (xs ys : List X) → ((x : X) → Contains xs x → Contains ys x) → (line : List ℕ) → Contains (map bytes xs) line → Contains (map bytes ys) line
  mapped_in [] ys to line (k, low, at) = absurd (omega (arith, low))
  mapped_in (x ∷ xs) ys to line d =
      let (k, low, e) = made_of bytes (x ∷ xs) x line d in
      let (j, l, at) = to (get_or (x ∷ xs) k x) (k, low, again (x ∷ xs) k x (get_or (x ∷ xs) k x) low) in
      subst (Contains (map bytes ys)) (ap bytes at ∙ e) (made_at bytes ys (get_or (x ∷ xs) k x) j l)
    where
      again : (zs : List X) (k : ℕ) (d e : X) → k < length zs → get_or zs k e ≡ get_or zs k d
      again [] k d e l = absurd (omega (arith, l))
      again (z ∷ zs) zero d e l = refl
      again (z ∷ zs) (suc k) d e l = again zs k d e (omega (arith, l))

  pub one_list : (xs ys : List X) → All P xs → All P ys → AreOrdered (map bytes xs) → AreOrdered (map bytes ys) → ((x : X) → Contains xs x → Contains ys x) → ((x : X) → Contains ys x → Contains xs x) → xs ≡ ys
  one_list xs ys p q a b to back = unmapped bytes P one xs ys p q (one_order (slice_cmp nat_cmp) nat_list_cmp_total (map bytes xs) (map bytes ys) a b (mapped_in xs ys to) (mapped_in ys xs back))

  -- no two places of such a list hold the same
  pub places_one : (xs : List X) (d : X) → AreOrdered (map bytes xs) → (i j : ℕ) → i < length xs → j < length xs → get_or xs i d ≡ get_or xs j d → i ≡ j
  places_one xs d sorted i j l m e = elim (cases_lt i j) [ inl a ↦ absurd (rises i j a m e) | inr b ↦ by b (cases_lt j i) ]
    where
      rises : (k n : ℕ) → k < n → n < length xs → get_or xs k d ≡ get_or xs n d → ⊥
      rises k n low high same =
          let at_k : get_or (map bytes xs) k [] ≡ bytes (get_or xs k d) = get_or-map bytes xs k d [] (omega (arith, low, high)) in
          let at_n : get_or (map bytes xs) n [] ≡ bytes (get_or xs n d) = get_or-map bytes xs n d [] high in
          let up = Less-from_sorted (slice_cmp nat_cmp) (map bytes xs) k n [] sorted low (subst (λ w. n < w) (sym (length-map xs bytes)) high) in
          not_below_itself (slice_cmp nat_cmp) nat_list_cmp_total (get_or (map bytes xs) n []) (subst (λ w. slice_cmp nat_cmp w (get_or (map bytes xs) n []) ≡ Less) (at_k ∙ (ap bytes same ∙ sym at_n)) up)

      by : j ≤ i → (j < i) ⊎ (i ≤ j) → i ≡ j
      by low (inl a) = absurd (rises j i a l (sym e))
      by low (inr b) = omega (arith, low, b)
