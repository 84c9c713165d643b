-- Pairs that are remembered at places, each with a number.
use Rattle.std.proofs.Common.{◌≡◌, ◌<◌, ◌⊎◌, inl, inr, ℕ, List, length, get_or, replicate, slice_set, Option, None, Some, IfSome, refl, sym, subst, ap, ◌∙◌, arith}
use Rattle.std.proofs.lemmas.Bool.{cases_eq}
use Rattle.std.proofs.lemmas.List.{get_or-set_same, get_or-set_other, length-set, get_or-replicate, length-replicate}
use Rattle.tc_close.specs.NumberTables.{numbered, HasNumber, ComesOn}

first_of : Option (ℕ × ℕ × ℕ) → ℕ
first_of None = 0
first_of (Some p) = p.0

second_of : Option (ℕ × ℕ × ℕ) → ℕ
second_of None = 0
second_of (Some p) = p.1

number_of : Option (ℕ × ℕ × ℕ) → ℕ
number_of None = 0
number_of (Some p) = p.2

one_pair : (a b m i j n : ℕ) → numbered a b m ≡ numbered i j n → (i ≡ a) × (j ≡ b) × (n ≡ m)
unfolding first_of second_of number_of
one_pair a b m i j n e = (sym (ap first_of e), sym (ap second_of e), sym (ap number_of e))

pub put_number : (xs : List (Option (ℕ × ℕ × ℕ))) (place a b m i j n : ℕ) → place < length xs → HasNumber (slice_set xs place (numbered a b m)) i j n → HasNumber xs i j n ⊎ ((i ≡ a) × (j ≡ b) × (n ≡ m))
put_number xs place a b m i j n low (k, inside, at) = elim (cases_eq k place) [
  | inl same ↦ inr (one_pair a b m i j n (sym (ap (λ p. get_or (slice_set xs place (numbered a b m)) p (numbered i j n)) same ∙ get_or-set_same xs place (numbered a b m) (numbered i j n) low) ∙ at))
  | inr other ↦ inl (k, (let c = length-set xs place (numbered a b m) in omega (arith, inside, c)), sym (get_or-set_other xs place k (numbered a b m) (numbered i j n) other) ∙ at)
]

-- where nothing stands at any place, no pair does
pub no_number : (c : ℕ) (xs : List (Option (ℕ × ℕ × ℕ))) → xs ≡ replicate c None → (i j n : ℕ) → HasNumber xs i j n → ⊥
no_number c xs same i j n (k, inside, at) =
    let count : length xs ≡ c = ap length same ∙ length-replicate c None in
    let low : k < c = omega (arith, inside, count) in
    let nothing : get_or xs k (numbered i j n) ≡ None = ap (λ ys. get_or ys k (numbered i j n)) same ∙ get_or-replicate c k None (numbered i j n) low in
    let both : None ≡ numbered i j n = sym nothing ∙ at in
    cc

-- what can't be a pair is nothing
pub nothing_else : (IsOne : Option (ℕ × ℕ × ℕ) → Type 0) → ((p : ℕ × ℕ × ℕ) → IsOne (Some p) → ⊥) → (o : Option (ℕ × ℕ × ℕ)) → IsOne o → o ≡ None
nothing_else IsOne none None is = refl
nothing_else IsOne none (Some p) is = absurd (none p is)

-- what stands at a place
pub at_place : (xs : List (Option (ℕ × ℕ × ℕ))) (k : ℕ) (o : Option (ℕ × ℕ × ℕ)) → k < length xs → o ≡ get_or xs k o → IfSome o (λ p. HasNumber xs p.0 p.1 p.2)
at_place xs k None low e = tt
at_place xs k (Some p) low e = (k, low, sym e)

-- what holds of all pairs and of the one that comes on
pub all_more : (P : ℕ → ℕ → ℕ → Type 0) (a b m : ℕ) (xs ys : List (Option (ℕ × ℕ × ℕ))) → ComesOn a b m xs ys → ((i j n : ℕ) → HasNumber xs i j n → P i j n) → P a b m → (i j n : ℕ) → HasNumber ys i j n → P i j n
all_more P a b m xs ys comes before here i j n at = by (comes i j n at)
  where
    by : HasNumber xs i j n ⊎ ((i ≡ a) × (j ≡ b) × (n ≡ m)) → P i j n
    by (inl e) = before i j n e
    by (inr (ei, ej, en)) = subst (λ k. P k j n) (sym ei) (subst (λ k. P a k n) (sym ej) (subst (P a b) (sym en) here))

pub comes_twice : (a b m : ℕ) (xs ys zs : List (Option (ℕ × ℕ × ℕ))) → ComesOn a b m xs ys → ComesOn a b m ys zs → ComesOn a b m xs zs
comes_twice a b m xs ys zs first second = all_more (λ i j n. HasNumber xs i j n ⊎ ((i ≡ a) × (j ≡ b) × (n ≡ m))) a b m ys zs second first (inr (refl, refl, refl))
