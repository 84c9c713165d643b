-- Lists that ascend strictly, one by one.
use Rattle.std.proofs.Common.{◌≡◌, ◌<◌, ◌≤◌, ◌+◌, ◌-◌, ◌⊎◌, inl, inr, ℕ, suc, slice_get, List, [], ◌∷◌, ◌++◌, length, map, get_or, Option, Some, None, refl, sym, ap, subst, ◌∙◌, arith}
use Rattle.std.specs.List.{AllByRecursion}
use Rattle.std.specs.List.Sorted.{IsStrictlySortedBy}
use Rattle.std.specs.Ordering.{nat_cmp}
use Rattle.std.specs.declared.cmp.Ordering.{Ordering}
use Rattle.std.specs.declared.cmp.Ordering.TheVariants.{Less}
use Rattle.std.specs.Cmp.{IsTotalOrder}
use Rattle.std.specs.Cmp.Lexicographic.{slice_cmp, nat_list_cmp_total}
use Rattle.std.proofs.lemmas.List.{map-append}
use Rattle.std.proofs.lemmas.Cmp.{then_total, on_total, nat_cmp_total}
use Rattle.std.proofs.lemmas.Map.Keys.{Less-from_sorted}
use Rattle.tc_model.specs.CertificateData.{AreOrdered, pair_cmp}
use Rattle.tc_cert.proofs.Steps.{below_next}
use Rattle.tc_cert.proofs.Differing.{got, within_get}
use Rattle.tc_cert.specs.Fields.{last_of, IsBehind}

some_same : {X : Type 0} (x y : X) → Some x ≡ Some y → x ≡ y
some_same x y e = cc

none_some : {X : Type 0} (y : X) → None ≡ Some y → ⊥
none_some y e = cc

pub last_snoc : {X : Type 0} (xs : List X) (y : X) → last_of (xs ++ y ∷ []) ≡ Some y
last_snoc [] y = refl
last_snoc (x ∷ []) y = refl
last_snoc (x ∷ (z ∷ zs)) y = last_snoc (z ∷ zs) y

pub last_map : {X Y : Type 0} (f : X → Y) (xs : List X) (b : X) → last_of xs ≡ Some b → last_of (map f xs) ≡ Some (f b)
last_map f [] b e = absurd (none_some b e)
last_map f (x ∷ []) b e = ap (λ y. Some (f y)) (some_same x b e)
last_map f (x ∷ (z ∷ zs)) b e = last_map f (z ∷ zs) b e

module _ {K : Type 0} {c : K → K → Ordering} (o : IsTotalOrder c) where
  all_snoc : (x w : K) (ws : List K) (y : K) → AllByRecursion (λ v. c x v ≡ Less) (w ∷ ws) → ((b : K) → last_of (w ∷ ws) ≡ Some b → c b y ≡ Less) → AllByRecursion (λ v. c x v ≡ Less) ((w ∷ ws) ++ y ∷ [])
  all_snoc x w [] y s h = (s.0, (o.trans x w y s.0 (h w refl), tt))
  all_snoc x w (v ∷ vs) y s h = (s.0, all_snoc x v vs y s.1 h)

  pub snoc_sorted : (xs : List K) (y : K) → IsStrictlySortedBy c xs → ((b : K) → last_of xs ≡ Some b → c b y ≡ Less) → IsStrictlySortedBy c (xs ++ y ∷ [])
  unfolding IsStrictlySortedBy
  snoc_sorted [] y s h = (tt, tt)
  snoc_sorted (x ∷ []) y s h = ((h x refl, tt), (tt, tt))
  snoc_sorted (x ∷ (z ∷ zs)) y s h = (all_snoc x z zs y s.0 h, snoc_sorted (z ∷ zs) y s.1 h)

  all_front : (P : K → Type 0) (xs ys : List K) → AllByRecursion P (xs ++ ys) → AllByRecursion P xs
  all_front P [] ys s = tt
  all_front P (x ∷ xs) ys s = (s.0, all_front P xs ys s.1)

  pub front_sorted : (xs ys : List K) → IsStrictlySortedBy c (xs ++ ys) → IsStrictlySortedBy c xs
  unfolding IsStrictlySortedBy
  front_sorted [] ys s = tt
  front_sorted (x ∷ xs) ys s = (all_front (λ v. c x v ≡ Less) xs ys s.0, front_sorted xs ys s.1)

  pub last_below : (xs : List K) (y b : K) → IsStrictlySortedBy c (xs ++ y ∷ []) → last_of xs ≡ Some b → c b y ≡ Less
  unfolding IsStrictlySortedBy
  last_below [] y b s e = absurd (none_some b e)
  last_below (x ∷ []) y b s e = subst (λ w. c w y ≡ Less) (some_same x b e) s.0.0
  last_below (x ∷ (z ∷ zs)) y b s e = last_below (z ∷ zs) y b s.1 e

  all_above : (x z : K) (zs : List K) → c x z ≡ Less → AllByRecursion (λ v. c z v ≡ Less) zs → AllByRecursion (λ v. c x v ≡ Less) zs
  all_above x z [] h s = tt
  all_above x z (w ∷ ws) h s = (o.trans x z w h s.0, all_above x z ws h s.1)

  next_place : (k : ℕ) → suc k + 1 ≡ suc (k + 1)
  next_place k = omega arith

  pub sorted_from_steps : (xs : List K) (d : K) → ((k : ℕ) → k + 1 < length xs → c (get_or xs k d) (get_or xs (k + 1) d) ≡ Less) → IsStrictlySortedBy c xs
  unfolding IsStrictlySortedBy
  sorted_from_steps [] d h = tt
  sorted_from_steps (x ∷ []) d h = (tt, tt)
  sorted_from_steps (x ∷ (z ∷ zs)) d h =
      let more : IsStrictlySortedBy c (z ∷ zs) = sorted_from_steps (z ∷ zs) d (λ k l. subst (λ j. c (get_or (z ∷ zs) k d) (get_or (x ∷ (z ∷ zs)) j d) ≡ Less) (next_place k) (h (suc k) (omega (arith, l)))) in
      let first : c x z ≡ Less = h 0 (omega arith) in
      ((first, all_above x z zs first more.0), more)

pub ordered_nil : AreOrdered []
unfolding IsStrictlySortedBy
ordered_nil = tt

-- lines that ascend, by the last of them
pub behind_last : {X : Type 0} (line : X → List ℕ) (before : Option X) (y b : X) → IsBehind line before y → before ≡ Some b → slice_cmp nat_cmp (line b) (line y) ≡ Less
behind_last line before y b h e = subst (λ o. IsBehind line o y) e h

none_last : {X Y : Type 0} (f : X → Y) (zs : List X) → last_of zs ≡ None → (w : Y) → last_of (map f zs) ≡ Some w → ⊥
none_last f [] q w e = none_some w e
none_last f (z ∷ []) q w e = none_some z (sym q)
none_last f (z ∷ (v ∷ vs)) q w e = none_last f (v ∷ vs) q w e

pub ordered_snoc : {X : Type 0} (line : X → List ℕ) (xs : List X) (y : X) → AreOrdered (map line xs) → IsBehind line (last_of xs) y → AreOrdered (map line (xs ++ y ∷ []))
ordered_snoc {X = X} line xs y s h = subst AreOrdered (sym (map-append line xs (y ∷ []))) (snoc_sorted nat_list_cmp_total (map line xs) (line y) s (λ b e. by b (last_of xs) refl e))
  where
    by : (b : List ℕ) (before : Option X) → last_of xs ≡ before → last_of (map line xs) ≡ Some b → slice_cmp nat_cmp b (line y) ≡ Less
    by b None q e = absurd (none_last line xs q b e)
    by b (Some x) q e = subst (λ w. slice_cmp nat_cmp w (line y) ≡ Less) (some_same (line x) b (sym (last_map line xs x q) ∙ e)) (behind_last line (last_of xs) y x h q)

pub behind_of_ordered : {X : Type 0} (line : X → List ℕ) (xs : List X) (y : X) → AreOrdered (map line (xs ++ y ∷ [])) → IsBehind line (last_of xs) y
behind_of_ordered {X = X} line xs y s = by (last_of xs) refl
  where
    by : (before : Option X) → last_of xs ≡ before → IsBehind line before y
    by None q = tt
    by (Some b) q = last_below nat_list_cmp_total (map line xs) (line y) (line b) (subst AreOrdered (map-append line xs (y ∷ [])) s) (last_map line xs b q)

pub ordered_front : {X : Type 0} (line : X → List ℕ) (xs ys : List X) → AreOrdered (map line (xs ++ ys)) → AreOrdered (map line xs)
ordered_front line xs ys s = front_sorted nat_list_cmp_total (map line xs) (map line ys) (subst AreOrdered (map-append line xs ys) s)

-- pairs that ascend
pair_cmp_total : IsTotalOrder pair_cmp
pair_cmp_total = then_total (on_total (λ (p : ℕ × ℕ). p.0) nat_cmp_total) (on_total (λ (p : ℕ × ℕ). p.1) nat_cmp_total)

pub sorted_pairs : (ps : List (ℕ × ℕ)) → ((k : ℕ) → k + 1 < length ps → pair_cmp (get_or ps k (0, 0)) (get_or ps (k + 1) (0, 0)) ≡ Less) → IsStrictlySortedBy pair_cmp ps
sorted_pairs ps h = sorted_from_steps pair_cmp_total ps (0, 0) h

pub not_sorted_pairs : (ps : List (ℕ × ℕ)) (i : ℕ) (p q : ℕ × ℕ) → 1 ≤ i → slice_get ps (i - 1) ≡ Some p → slice_get ps i ≡ Some q → (pair_cmp p q ≡ Less → ⊥) → IsStrictlySortedBy pair_cmp ps → ⊥
not_sorted_pairs ps i p q some e d bar s =
    let within : i < length ps = within_get ps i q d in
    let less : pair_cmp (get_or ps (i - 1) (0, 0)) (get_or ps i (0, 0)) ≡ Less = Less-from_sorted pair_cmp ps (i - 1) i (0, 0) s (omega (arith, some)) within in
    bar (subst (λ x. pair_cmp x q ≡ Less) (got ps (i - 1) p (0, 0) e) (subst (λ x. pair_cmp (get_or ps (i - 1) (0, 0)) x ≡ Less) (got ps i q (0, 0) d) less))

pub pairs_up_to_next : (ps : List (ℕ × ℕ)) (i : ℕ) (p q : ℕ × ℕ) → 1 ≤ i → slice_get ps (i - 1) ≡ Some p → slice_get ps i ≡ Some q
    → ((k : ℕ) → k + 1 < i → pair_cmp (get_or ps k (0, 0)) (get_or ps (k + 1) (0, 0)) ≡ Less) → pair_cmp p q ≡ Less
    → (k : ℕ) → k + 1 < i + 1 → pair_cmp (get_or ps k (0, 0)) (get_or ps (k + 1) (0, 0)) ≡ Less
pairs_up_to_next ps i p q some e d so_far last k h = by (below_next k i h)
  where
    by : (k + 1 < i) ⊎ (k + 1 ≡ i) → pair_cmp (get_or ps k (0, 0)) (get_or ps (k + 1) (0, 0)) ≡ Less
    by (inl a) = so_far k a
    by (inr a) =
        let before : i - 1 ≡ k = omega (arith, a) in
        let one : get_or ps k (0, 0) ≡ p = ap (λ j. get_or ps j (0, 0)) (sym before) ∙ got ps (i - 1) p (0, 0) e in
        let other : get_or ps (k + 1) (0, 0) ≡ q = ap (λ j. get_or ps j (0, 0)) a ∙ got ps i q (0, 0) d in
        subst (λ x. pair_cmp x (get_or ps (k + 1) (0, 0)) ≡ Less) (sym one) (subst (λ x. pair_cmp p x ≡ Less) (sym other) last)
