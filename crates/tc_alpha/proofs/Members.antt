-- Members of a list, and a list in order.
use Rattle.std.proofs.Common.{◌≡◌, ℕ, zero, suc, ◌<◌, List, [], ◌∷◌, ◌++◌, length, get_or, refl, ap, sym, subst, ◌∙◌, ◌⊎◌, inl, inr, arith}
use Rattle.std.specs.List.{Contains, All, AllByRecursion}
use Rattle.std.specs.List.Sorted.{IsStrictlySortedBy}
use Rattle.std.specs.Cmp.{IsTotalOrder}
use Rattle.std.specs.FinMap.{IsAntisymmetric}
use Rattle.std.specs.Ordering.{match_ordering, ordering_reverse}
use Rattle.std.specs.declared.cmp.Ordering.{Ordering}
use Rattle.std.specs.declared.cmp.Ordering.TheVariants.{Less, Equal, Greater}
use Rattle.std.proofs.lemmas.Cmp.{tied_itself}
use Rattle.tc_model.specs.Symbols.{put_in_order, in_order}

abbrev pub Has : {X : Type 0} → List X → X → Type 0
Has [] y = ⊥
Has (x ∷ xs) y = (x ≡ y) ⊎ Has xs y

module _ {X : Type 0} where
  has_at : (xs : List X) (k : ℕ) (y : X) → k < length xs → get_or xs k y ≡ y → Has xs y
  has_at [] k y h e = absurd (omega arith)
  has_at (x ∷ xs) zero y h e = inl e
  has_at (x ∷ xs) (suc k) y h e = inr (has_at xs k y (omega arith) e)

  pub has_from_contains : (xs : List X) (y : X) → Contains xs y → Has xs y
  has_from_contains xs y h = has_at xs h.0 y h.1 h.2

  pub contains_from_has : (xs : List X) (y : X) → Has xs y → Contains xs y
  contains_from_has [] y h = absurd h
  contains_from_has (x ∷ xs) y (inl e) = (0, omega arith, e)
  contains_from_has (x ∷ xs) y (inr h) = let rest = contains_from_has xs y h in (suc rest.0, omega arith, rest.2)

  pub has_front : (xs ys : List X) (y : X) → Has xs y → Has (xs ++ ys) y
  has_front [] ys y h = absurd h
  has_front (x ∷ xs) ys y (inl e) = inl e
  has_front (x ∷ xs) ys y (inr h) = inr (has_front xs ys y h)

  pub has_back : (xs ys : List X) (y : X) → Has ys y → Has (xs ++ ys) y
  has_back [] ys y h = h
  has_back (x ∷ xs) ys y h = inr (has_back xs ys y h)

  pub has_either : (xs ys : List X) (y : X) → Has (xs ++ ys) y → Has xs y ⊎ Has ys y
  has_either [] ys y h = inr h
  has_either (x ∷ xs) ys y (inl e) = inl (inl e)
  has_either (x ∷ xs) ys y (inr h) = elim (has_either xs ys y h) [ inl a ↦ inl (inr a) | inr b ↦ inr b ]

-- what holds of every member
module _ {X : Type 0} (P : X → Type 0) where
  abbrev pub Every : List X → Type 0
  Every xs = AllByRecursion P xs

  pub every_member : (xs : List X) (y : X) → Every xs → Has xs y → P y
  every_member [] y all h = absurd h
  every_member (x ∷ xs) y all (inl e) = subst P e all.0
  every_member (x ∷ xs) y all (inr h) = every_member xs y all.1 h

  pub every_from_members : (xs : List X) → ((y : X) → Has xs y → P y) → Every xs
  every_from_members [] h = tt
  every_from_members (x ∷ xs) h = (h x (inl refl), every_from_members xs (λ y m. h y (inr m)))

  pub every_append : (xs ys : List X) → Every xs → Every ys → Every (xs ++ ys)
  every_append [] ys a b = b
  every_append (x ∷ xs) ys a b = (a.0, every_append xs ys a.1 b)

  pub every_front : (xs ys : List X) → Every (xs ++ ys) → Every xs
  every_front [] ys h = tt
  every_front (x ∷ xs) ys h = (h.0, every_front xs ys h.1)

  pub every_back : (xs ys : List X) → Every (xs ++ ys) → Every ys
  every_back [] ys h = h
  every_back (x ∷ xs) ys h = every_back xs ys h.1

  pub all_from_every : (xs : List X) → Every xs → All P xs
  all_from_every [] h k d l = absurd (omega arith)
  all_from_every (x ∷ xs) h zero d l = h.0
  all_from_every (x ∷ xs) h (suc k) d l = all_from_every xs h.1 k d (omega arith)

  pub every_from_all : (xs : List X) → All P xs → Every xs
  every_from_all [] h = tt
  every_from_all (x ∷ xs) h = (h 0 x (omega arith), every_from_all xs (λ k d l. h (suc k) d (omega arith)))

module _ {K : Type 0} {R : K → K → Ordering} (order : IsTotalOrder R) (exact : IsAntisymmetric R) where
  put_all : (P : K → Type 0) (k : K) (xs : List K) → P k → AllByRecursion P xs → AllByRecursion P (put_in_order R k xs)
  put_all P k [] one all = (one, tt)
  put_all P k (x ∷ xs) one all =
      elim (R k x) as (λ r. AllByRecursion P (match_ordering r (k ∷ x ∷ xs) (x ∷ xs) (x ∷ put_in_order R k xs))) [
        | Less ↦ (one, all)
        | Equal ↦ all
        | Greater ↦ (all.0, put_all P k xs one all.1)
      ]

  above : (k x : K) → R k x ≡ Less → (xs : List K) → AllByRecursion (λ y. R x y ≡ Less) xs → AllByRecursion (λ y. R k y ≡ Less) xs
  above k x e [] h = tt
  above k x e (y ∷ ys) h = (order.trans k x y e h.0, above k x e ys h.1)

  below : (k x : K) → R k x ≡ Greater → R x k ≡ Less
  below k x e = order.antisymm x k ∙ ap ordering_reverse e

  put_rises : (k : K) (xs : List K) → IsStrictlySortedBy R xs → IsStrictlySortedBy R (put_in_order R k xs)
  unfolding IsStrictlySortedBy
  put_rises k [] h = (tt, tt)
  put_rises k (x ∷ xs) h =
      elim (R k x) as (λ r. R k x ≡ r → IsStrictlySortedBy R (match_ordering r (k ∷ x ∷ xs) (x ∷ xs) (x ∷ put_in_order R k xs))) [
        | Less ↦ λ e. ((e, above k x e xs h.0), h)
        | Equal ↦ λ e. h
        | Greater ↦ λ e. (put_all (λ y. R x y ≡ Less) k xs (below k x e) h.0, put_rises k xs h.1)
      ] refl

  pub in_order_rises : (xs : List K) → IsStrictlySortedBy R (in_order R xs)
  unfolding IsStrictlySortedBy
  in_order_rises [] = tt
  in_order_rises (x ∷ xs) = put_rises x (in_order R xs) (in_order_rises xs)

  put_has : (k : K) (xs : List K) → Has (put_in_order R k xs) k
  put_has k [] = inl refl
  put_has k (x ∷ xs) =
      elim (R k x) as (λ r. R k x ≡ r → Has (match_ordering r (k ∷ x ∷ xs) (x ∷ xs) (x ∷ put_in_order R k xs)) k) [
        | Less ↦ λ e. inl refl
        | Equal ↦ λ e. inl (sym (exact k x e))
        | Greater ↦ λ e. inr (put_has k xs)
      ] refl

  put_keeps : (k : K) (xs : List K) (y : K) → Has xs y → Has (put_in_order R k xs) y
  put_keeps k [] y h = absurd h
  put_keeps k (x ∷ xs) y h =
      elim (R k x) as (λ r. Has (match_ordering r (k ∷ x ∷ xs) (x ∷ xs) (x ∷ put_in_order R k xs)) y) [
        | Less ↦ inr h
        | Equal ↦ h
        | Greater ↦ elim h as (λ _. Has (x ∷ put_in_order R k xs) y) [ inl e ↦ inl e | inr m ↦ inr (put_keeps k xs y m) ]
      ]

  put_from : (k : K) (xs : List K) (y : K) → Has (put_in_order R k xs) y → (k ≡ y) ⊎ Has xs y
  put_from k [] y h = elim h as (λ _. (k ≡ y) ⊎ ⊥) [ inl e ↦ inl e | inr m ↦ absurd m ]
  put_from k (x ∷ xs) y h =
      elim (R k x) as (λ r. Has (match_ordering r (k ∷ x ∷ xs) (x ∷ xs) (x ∷ put_in_order R k xs)) y → (k ≡ y) ⊎ Has (x ∷ xs) y) [
        | Less ↦ λ m. m
        | Equal ↦ λ m. inr m
        | Greater ↦ λ m. elim m as (λ _. (k ≡ y) ⊎ Has (x ∷ xs) y) [
          | inl e ↦ inr (inl e)
          | inr n ↦ elim (put_from k xs y n) as (λ _. (k ≡ y) ⊎ Has (x ∷ xs) y) [ inl e ↦ inl e | inr o ↦ inr (inr o) ]
        ]
      ] h

  pub in_order_has : (xs : List K) (y : K) → Has xs y → Has (in_order R xs) y
  in_order_has [] y h = absurd h
  in_order_has (x ∷ xs) y (inl e) = subst (Has (put_in_order R x (in_order R xs))) e (put_has x (in_order R xs))
  in_order_has (x ∷ xs) y (inr h) = put_keeps x (in_order R xs) y (in_order_has xs y h)

  pub has_from_in_order : (xs : List K) (y : K) → Has (in_order R xs) y → Has xs y
  has_from_in_order [] y h = absurd h
  has_from_in_order (x ∷ xs) y h = elim (put_from x (in_order R xs) y h) as (λ _. Has (x ∷ xs) y) [ inl e ↦ inl e | inr m ↦ inr (has_from_in_order xs y m) ]

  not_itself : (x y : K) → R x y ≡ Less → x ≡ y → ⊥
  not_itself x y less e = let tied : R x y ≡ Equal = subst (λ w. R x w ≡ Equal) e (tied_itself order x) in cc

  not_both : (x y : K) → R x y ≡ Less → R y x ≡ Less → ⊥
  not_both x y a b = not_itself x x (order.trans x y x a b) refl

  -- lists that rise and have the same members are one
  one_list : (xs ys : List K) → IsStrictlySortedBy R xs → IsStrictlySortedBy R ys → ((z : K) → Has xs z → Has ys z) → ((z : K) → Has ys z → Has xs z) → xs ≡ ys
  unfolding IsStrictlySortedBy
  one_list [] [] a b forth back = refl
  one_list [] (y ∷ ys) a b forth back = absurd (back y (inl refl))
  one_list (x ∷ xs) [] a b forth back = absurd (forth x (inl refl))
  one_list (x ∷ xs) (y ∷ ys) a b forth back =
      let smallest : x ≡ y =
      elim (forth x (inl refl)) as (λ _. x ≡ y) [
        | inl e ↦ sym e
        | inr m ↦ elim (back y (inl refl)) as (λ _. x ≡ y) [
          | inl e ↦ e
          | inr n ↦ absurd (not_both x y (every_member (λ w. R x w ≡ Less) xs y a.0 n) (every_member (λ w. R y w ≡ Less) ys x b.0 m))
        ]
      ]
      in
      let on : (z : K) → Has xs z → Has ys z =
      λ z h. elim (forth z (inr h)) as (λ _. Has ys z) [
        | inl e ↦ absurd (not_itself x z (every_member (λ w. R x w ≡ Less) xs z a.0 h) (smallest ∙ e))
        | inr m ↦ m
      ]
      in
      let off : (z : K) → Has ys z → Has xs z =
      λ z h. elim (back z (inr h)) as (λ _. Has xs z) [
        | inl e ↦ absurd (not_itself y z (every_member (λ w. R y w ≡ Less) ys z b.0 h) (sym smallest ∙ e))
        | inr m ↦ m
      ]
      in
      ap (λ w. w ∷ xs) smallest ∙ ap (λ l. y ∷ l) (one_list xs ys a.1 b.1 on off)

  -- a list that rises and has the members of another is that one in order
  pub is_in_order : (zs xs : List K) → IsStrictlySortedBy R zs → ((z : K) → Has zs z → Has xs z) → ((z : K) → Has xs z → Has zs z) → zs ≡ in_order R xs
  is_in_order zs xs rises from keeps = one_list zs (in_order R xs) rises (in_order_rises xs) (λ z h. in_order_has xs z (from z h)) (λ z h. keeps z (has_from_in_order xs z h))
