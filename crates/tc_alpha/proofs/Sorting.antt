-- A list that was sorted, and of which repeated items were dropped, is in order.
use Rattle.std.proofs.Common.{◌≡◌, ◌+◌, List, [], ◌∷◌, get_or, refl, ap, sym, subst, ◌∙◌, inl, inr, Bool, true, map}
use Rattle.std.specs.List.{Any, dedup, AllByRecursion}
use Rattle.std.specs.List.Retain.{IsFiltered, DiffersFromLast}
use Rattle.std.specs.List.Sorted.{IsStrictlySortedBy, IsSorted, IsPermutation}
use Rattle.std.specs.Cmp.{IsTotalOrder, IsEquivalence}
use Rattle.std.specs.Ordering.{is_lt, is_eq, on}
use Rattle.std.specs.declared.cmp.Ordering.{Ordering}
use Rattle.std.specs.declared.cmp.Ordering.TheVariants.{Less}
use Rattle.std.proofs.lemmas.Cmp.{on_total, eq_by_cmp_equiv}
use Rattle.std.proofs.lemmas.List.Filters.{dedup_is}
use Rattle.std.proofs.lemmas.List.Kept.{IsStrictlySortedBy-dedup, Any-dedup, Contains-from_dedup}
use Rattle.std.proofs.lemmas.List.Sorted.{Contains-permutation, IsPermutation-sym}
use Rattle.tc_model.specs.Symbols.{mention_cmp, in_order}
use Rattle.tc_model.specs.Symbols as m
use Rattle.tc_alpha.specs.Views.{mention, seen}
use Rattle.tc_alpha.specs.declared.mentions.Mention.{Mention}
use Rattle.tc_alpha.proofs.Orders.{total, same, same_mention}
use Rattle.tc_alpha.proofs.Members.{Has, has_from_contains, contains_from_has, is_in_order}

module _ {X Y : Type 0} (f : X → Y) where
  has_mapped : (xs : List X) (x : X) → Has xs x → Has (map f xs) (f x)
  has_mapped [] x h = absurd h
  has_mapped (y ∷ xs) x (inl e) = inl (ap f e)
  has_mapped (y ∷ xs) x (inr h) = inr (has_mapped xs x h)

  has_from_mapped : (xs : List X) (z : Y) → Has (map f xs) z → (x : X) × Has xs x × (f x ≡ z)
  has_from_mapped [] z h = absurd h
  has_from_mapped (x ∷ xs) z (inl e) = (x, inl refl, e)
  has_from_mapped (x ∷ xs) z (inr h) = let rest = has_from_mapped xs z h in (rest.0, inr rest.1, rest.2)

  all_mapped : (P : Y → Type 0) (xs : List X) → AllByRecursion (λ x. P (f x)) xs → AllByRecursion P (map f xs)
  all_mapped P [] h = tt
  all_mapped P (x ∷ xs) h = (h.0, all_mapped P xs h.1)

  mapped_rises : (R : Y → Y → Ordering) (xs : List X) → IsStrictlySortedBy (on f R) xs → IsStrictlySortedBy R (map f xs)
  unfolding IsStrictlySortedBy
  mapped_rises R [] h = tt
  mapped_rises R (x ∷ xs) h = (all_mapped (λ y. R (f x) y ≡ Less) xs h.0, mapped_rises R xs h.1)

module _
    (C : Mention → Mention → Ordering) (E : Mention → Mention → Bool)
    (cmp_is : (x y : Mention) → C x y ≡ mention_cmp (mention x) (mention y))
    (eq_is : (x y : Mention) → E x y ≡ is_eq (mention_cmp (mention x) (mention y))) where
  by_mention : IsTotalOrder (on mention mention_cmp)
  by_mention = on_total mention total

  alike : IsEquivalence E
  alike =
      let q = eq_by_cmp_equiv by_mention in
      record {
        refl = λ x. eq_is x x ∙ IsEquivalence.refl q x;
        symm = λ x y. eq_is x y ∙ (IsEquivalence.symm q x y ∙ sym (eq_is y x));
        congr = λ x y z e. eq_is x z ∙ (IsEquivalence.congr q x y z (sym (eq_is x y) ∙ e) ∙ sym (eq_is y z));
      }

  rises : (xs : List Mention) → IsSorted C xs → IsStrictlySortedBy mention_cmp (seen (dedup E xs))
  rises xs h =
      mapped_rises mention mention_cmp (dedup E xs)
      (IsStrictlySortedBy-dedup by_mention eq_is xs (λ k d low high. ap is_lt (sym (cmp_is (get_or xs (k + 1) d) (get_or xs k d))) ∙ h k d low high))

  keeps : (old sorted : List Mention) → IsPermutation old sorted → (z : m.Mention) → Has (seen old) z → Has (seen (dedup E sorted)) z
  keeps old sorted moved z h =
      let x = has_from_mapped mention old z h in
      let kept : Any (λ y. E x.0 y ≡ true) (dedup E sorted) = Any-dedup alike sorted x.0 (Contains-permutation old sorted x.0 moved (contains_from_has old x.0 x.1)) in
      let y = kept.1 in
      let there : Has (seen (dedup E sorted)) (mention y) = has_mapped mention (dedup E sorted) y (has_from_contains (dedup E sorted) y (kept.0, kept.2, kept.3)) in
      let one : mention y ≡ z = sym (same_mention (mention x.0) (mention y) (sym (eq_is x.0 y) ∙ kept.4)) ∙ x.2 in
      subst (Has (seen (dedup E sorted))) one there

  adds_none : (old sorted : List Mention) → IsPermutation old sorted → (z : m.Mention) → Has (seen (dedup E sorted)) z → Has (seen old) z
  adds_none old sorted moved z h =
      let x = has_from_mapped mention (dedup E sorted) z h in
      let there = Contains-permutation sorted old x.0 (IsPermutation-sym old sorted moved) (Contains-from_dedup E sorted x.0 (contains_from_has (dedup E sorted) x.0 x.1)) in
      subst (Has (seen old)) x.2 (has_mapped mention old x.0 (has_from_contains old x.0 there))

  pub sorted_once : (old sorted new : List Mention) → IsPermutation old sorted → IsSorted C sorted → IsFiltered (DiffersFromLast E) [] sorted new → seen new ≡ in_order mention_cmp (seen old)
  sorted_once old sorted new moved up filtered =
      ap seen (dedup_is E sorted new filtered)
      ∙ is_in_order total same (seen (dedup E sorted)) (seen old) (rises sorted up) (adds_none old sorted moved) (keeps old sorted moved)
