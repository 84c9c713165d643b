-- Lists of numbers as the keys of a set.
use Rattle.std.proofs.Common.{◌≡◌, ◌↔◌, ◌⊎◌, inl, inr, ℕ, zero, suc, List, [], ◌∷◌, ◌++◌, refl, ap, ◌∙◌, sym, Bool, IsTrue, true, false, ◌||◌, Some, slice_get, map, cond, nat_eq, subst, arith}
use Rattle.std.specs.List.{list_any, Contains}
use Rattle.std.specs.Cmp.Lexicographic.{pointwise, bytes_decides}
use Rattle.std.proofs.lemmas.Option.{slice_get-get_or}
use Rattle.std.proofs.lemmas.List.{map-append}
use Rattle.indexmap.specs.IndexSet.{insert_key}
use Rattle.tc_alpha.proofs.Members.{Has, has_from_contains, contains_from_has, has_front, has_back, has_either}
use Rattle.tc_verify.specs.Listings.{HasMore}

module _ {V : Type 0} (items : V → List ℕ) where
  abbrev pub same : V → V → Bool
  same a b = pointwise nat_eq (items a) (items b)

  same_true : (a b : V) → same a b ≡ true → items a ≡ items b
  same_true a b e = (bytes_decides (items a) (items b)).0 e

  or_left : (a b : Bool) → (a || b) ≡ false → a ≡ false
  or_left true b e = cc
  or_left false b e = refl

  or_right : (a b : Bool) → (a || b) ≡ false → b ≡ false
  or_right true b e = cc
  or_right false b e = e

  not_at : (ns : List ℕ) (ks : List V) (i : ℕ) → list_any (λ k. pointwise nat_eq ns (items k)) ks ≡ false → slice_get (map items ks) i ≡ Some ns → ⊥
  not_at ns [] i e p = cc
  not_at ns (x ∷ xs) zero e p =
      let t : pointwise nat_eq ns (items x) ≡ true = (bytes_decides ns (items x)).1 (cc) in
      let f = or_left (pointwise nat_eq ns (items x)) (list_any (λ k. pointwise nat_eq ns (items k)) xs) e in cc
  not_at ns (x ∷ xs) (suc i) e p = not_at ns xs i (or_right (pointwise nat_eq ns (items x)) (list_any (λ k. pointwise nat_eq ns (items k)) xs) e) p

  absent : (ns : List ℕ) (ks : List V) → list_any (λ k. pointwise nat_eq ns (items k)) ks ≡ false → Contains (map items ks) ns → ⊥
  absent ns ks e (i, low, at) = not_at ns ks i e (slice_get-get_or (map items ks) i ns low ∙ ap Some at)

  listed_at : (ns : List ℕ) (ks : List V) → list_any (λ k. pointwise nat_eq ns (items k)) ks ≡ true → Contains (map items ks) ns
  listed_at ns [] e = cc
  listed_at ns (x ∷ xs) e = by (pointwise nat_eq ns (items x)) refl (listed_at ns xs)
    where
      by : (b : Bool) → pointwise nat_eq ns (items x) ≡ b → (list_any (λ k. pointwise nat_eq ns (items k)) xs ≡ true → Contains (map items xs) ns) → Contains (items x ∷ map items xs) ns
      by true is rest = (0, omega arith, sym ((bytes_decides ns (items x)).0 is))
      by false is rest = let (i, low, at) = rest (sym (ap (λ c. c || list_any (λ k. pointwise nat_eq ns (items k)) xs) is) ∙ e) in (suc i, omega (arith, low), at)

  -- a test of all lists
  pub looked_up : (ns : List ℕ) (ks : List V) (b : Bool) → b ≡ list_any (λ k. pointwise nat_eq ns (items k)) ks → IsTrue b ↔ Contains (map items ks) ns
  looked_up ns ks true e = (λ t. listed_at ns ks (sym e), λ h. refl)
  looked_up ns ks false e = (λ f. absurd (cc), λ h. absurd (absent ns ks (sym e) h))

  holds : (v : V) (ks : List V) → list_any (same v) ks ≡ true → Contains (map items ks) (items v)
  holds v [] e = cc
  holds v (x ∷ xs) e = by (same v x) refl (holds v xs)
    where
      by : (b : Bool) → same v x ≡ b → (list_any (same v) xs ≡ true → Contains (map items xs) (items v)) → Contains (items x ∷ map items xs) (items v)
      by true is rest = (0, omega arith, sym (same_true v x is))
      by false is rest = let (i, low, at) = rest (sym (ap (λ c. c || list_any (same v) xs) is) ∙ e) in (suc i, omega (arith, low), at)

  -- an absent list goes last
  pub grown : (v : V) (ks : List V) → (Contains (map items ks) (items v) → ⊥) → map items (insert_key same ks v) ≡ map items ks ++ items v ∷ []
  grown v ks absent = by (list_any (same v) ks) refl
    where
      by : (b : Bool) → list_any (same v) ks ≡ b → map items (insert_key same ks v) ≡ map items ks ++ items v ∷ []
      by true e = absurd (absent (holds v ks e))
      by false e = ap (λ b. map items (cond b ks (ks ++ v ∷ []))) e ∙ map-append items ks (v ∷ [])

-- what a list with one more behind it contains
pub one_more : (old new : List (List ℕ)) (r : List ℕ) → new ≡ old ++ r ∷ [] → HasMore old new r
one_more old new r e ns = subst (λ (p : List (List ℕ)). Contains p ns ↔ (Contains old ns ⊎ (ns ≡ r))) (sym e) (there, back)
  where
    there : Contains (old ++ r ∷ []) ns → Contains old ns ⊎ (ns ≡ r)
    there c = elim (has_either old (r ∷ []) ns (has_from_contains (old ++ r ∷ []) ns c)) [ inl a ↦ inl (contains_from_has old ns a) | inr b ↦ inr (last b) ]
      where
        last : Has (r ∷ []) ns → ns ≡ r
        last (inl q) = sym q
        last (inr q) = absurd q

    back : Contains old ns ⊎ (ns ≡ r) → Contains (old ++ r ∷ []) ns
    back (inl c) = contains_from_has (old ++ r ∷ []) ns (has_front old (r ∷ []) ns (has_from_contains old ns c))
    back (inr q) = contains_from_has (old ++ r ∷ []) ns (has_back old (r ∷ []) ns (inl (sym q)))
