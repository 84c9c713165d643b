-- Sets of numbers as lists in order.
use Rattle.std.proofs.Common.{◌≡◌, ◌⊎◌, ◌↔◌, inl, inr, ℕ, zero, suc, ◌<◌, List, [], ◌∷◌, ◌++◌, filter, Bool, true, false, if◌then◌else◌, eqb-true, eq-eqb, refl, ap, sym, subst, ◌∙◌, Contains, All, arith}
use Rattle.std.specs.List.Sorted.{IsStrictlySortedBy}
use Rattle.std.specs.Ordering.{nat_cmp}
use Rattle.std.specs.declared.cmp.Ordering.TheVariants.{Less}
use Rattle.std.proofs.lemmas.Bool.{true≢false}
use Rattle.std.proofs.lemmas.List.Kept.{IsStrictlySortedBy-filter}
use Rattle.tc_model.specs.Numbered.{numbers_below}
use Rattle.tc_alpha.proofs.Members.{Has as HasItem, has_from_contains, contains_from_has, has_front, has_back, has_either, every_from_members, every_append, all_from_every}
use Rattle.tc_sets.specs.Numbers.{Numbers, Has, IsSet, SetsHaveOneForm}
use Rattle.tc_sets.proofs.Bits.{number_below}
use Rattle.tc_incl.specs.Sets.{is_in, members}

module _ {X : Type 0} (p : X → Bool) where
  kept_in : (xs : List X) (y : X) → HasItem xs y → p y ≡ true → HasItem (filter p xs) y
  kept_in [] y h e = absurd h
  kept_in (x ∷ xs) y h e = by (p x) refl h (λ k. kept_in xs y k e)
    where
      by : (b : Bool) → p x ≡ b → HasItem (x ∷ xs) y → (HasItem xs y → HasItem (filter p xs) y) → HasItem (if b then (x ∷ filter p xs) else filter p xs) y
      by true w (inl same) later = inl same
      by true w (inr k) later = inr (later k)
      by false w (inl same) later = absurd (true≢false (sym e ∙ (ap p (sym same) ∙ w)))
      by false w (inr k) later = later k

  in_kept : (xs : List X) (y : X) → HasItem (filter p xs) y → p y ≡ true
  in_kept [] y h = absurd h
  in_kept (x ∷ xs) y h = by (p x) refl h (in_kept xs y)
    where
      by : (b : Bool) → p x ≡ b → HasItem (if b then (x ∷ filter p xs) else filter p xs) y → (HasItem (filter p xs) y → p y ≡ true) → p y ≡ true
      by true w (inl same) later = ap p (sym same) ∙ w
      by true w (inr k) later = later k
      by false w k later = later k

has_below : (n i : ℕ) → i < n → HasItem (numbers_below n) i
has_below zero i l = absurd (omega (arith, l))
has_below (suc n) i l = elim (cases i n l) [ inl m ↦ has_front (numbers_below n) (n ∷ []) i (has_below n i m) | inr e ↦ has_back (numbers_below n) (n ∷ []) i (inl (sym e)) ]
  where
    cases : (i n : ℕ) → i < suc n → (i < n) ⊎ (i ≡ n)
    cases i n l = grind arith

below_number : (n k : ℕ) → HasItem (numbers_below n) k → k < n
below_number zero k h = absurd h
below_number (suc n) k h = elim (has_either (numbers_below n) (n ∷ []) k h) [ inl a ↦ let l = below_number n k a in omega (arith, l) | inr b ↦ last b ]
  where
    last : HasItem (n ∷ []) k → k < suc n
    last (inl e) = omega (arith, e)
    last (inr f) = absurd f

less_is : (a b : ℕ) → a < b → nat_cmp a b ≡ Less
less_is a b h = grind arith

rise_then : (n : ℕ) (xs : List ℕ) → IsStrictlySortedBy nat_cmp xs → ((a : ℕ) → HasItem xs a → a < n) → IsStrictlySortedBy nat_cmp (xs ++ n ∷ [])
unfolding IsStrictlySortedBy
rise_then n [] s low = (tt, tt)
rise_then n (x ∷ xs) s low =
    (every_append (λ y. nat_cmp x y ≡ Less) xs (n ∷ []) s.0 (less_is x n (low x (inl refl)), tt), rise_then n xs s.1 (λ a h. low a (inr h)))

numbers_rise : (n : ℕ) → IsStrictlySortedBy nat_cmp (numbers_below n)
unfolding IsStrictlySortedBy
numbers_rise zero = tt
numbers_rise (suc n) = rise_then n (numbers_below n) (numbers_rise n) (λ a h. below_number n a h)

pub members_rise : (s : Numbers) → IsStrictlySortedBy nat_cmp (members s)
members_rise s = IsStrictlySortedBy-filter nat_cmp (is_in s) (numbers_below s.size) (numbers_rise s.size)

pub members_have : (s : Numbers) → IsSet s → (j : ℕ) → Contains (members s) j ↔ Has s j
members_have s ok j = (
  λ c. eqb-true _ 1 (in_kept (is_in s) (numbers_below s.size) j (has_from_contains (members s) j c)),
  λ h. contains_from_has (members s) j (kept_in (is_in s) (numbers_below s.size) j (has_below s.size j (number_below s ok j h)) (eq-eqb _ 1 h)),
)

-- all its numbers are below its size
pub members_below : (s : Numbers) → IsSet s → All (λ j. j < s.size) (members s)
members_below s ok = all_from_every (λ j. j < s.size) (members s) (every_from_members (λ j. j < s.size) (members s) (λ j h. number_below s ok j ((members_have s ok j).0 (contains_from_has (members s) j h))))

-- sets of one size that have the same members are one
pub members_one : SetsHaveOneForm → (s t : Numbers) → IsSet s → IsSet t → s.size ≡ t.size → members s ≡ members t → s ≡ t
members_one form s t a b size same =
    form s t a b size
    (λ j. (λ h. (members_have t b j).0 (subst (λ w. Contains w j) same ((members_have s a j).1 h)), λ h. (members_have s a j).0 (subst (λ w. Contains w j) (sym same) ((members_have t b j).1 h))))
