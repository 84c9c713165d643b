-- What flags tell, and rooms as rows.
use Rattle.std.proofs.Common.{◌≡◌, ◌<◌, inl, inr, ◌+◌, ◌==◌, ◌∷◌, [], ℕ, zero, suc, List, length, get_or, drop, Bool, true, false, if◌then◌else◌, subst, ◌∙◌, refl, arith, eq-eqb, eqb-true}
use Rattle.std.specs.List.{AllByRecursion}
use Rattle.std.specs.List.Sorted.{IsStrictlySortedBy}
use Rattle.std.specs.Ordering.{nat_cmp}
use Rattle.std.specs.declared.cmp.Ordering.TheVariants.{Less}
use Rattle.std.proofs.lemmas.List.{get_or-take, get_or-drop}
use Rattle.tc_alpha.proofs.Members.{Has, every_from_members}
use Rattle.tc_beh.specs.Rooms.{flagged, flags_in, outputs_in, looks_in, flag_at, output_at}

-- a flagged number is the place of a one
abbrev IsPlace : ℕ → List ℕ → ℕ → Type 0
IsPlace first vs j = (i : ℕ) × (i < length vs) × (get_or vs i 0 ≡ 1) × (j ≡ first + i)

behind : (first v : ℕ) (vs : List ℕ) (j : ℕ) → IsPlace (suc first) vs j → IsPlace first (v ∷ vs) j
behind first v vs j (i, l, one, e) = (suc i, omega (arith, l), one, omega (arith, e))

pub flagged_at : (first : ℕ) (vs : List ℕ) (j : ℕ) → Has (flagged first vs) j → IsPlace first vs j
flagged_at first [] j h = absurd h
flagged_at first (v ∷ vs) j h = by (v == 1) refl (λ k. flagged_at (suc first) vs j k) h
  where
    by : (b : Bool) → (v == 1) ≡ b → (Has (flagged (suc first) vs) j → IsPlace (suc first) vs j) → Has (if b then (first ∷ flagged (suc first) vs) else flagged (suc first) vs) j → IsPlace first (v ∷ vs) j
    by true e later (inl is) = (0, omega arith, eqb-true v 1 e, omega (arith, is))
    by true e later (inr k) = behind first v vs j (later k)
    by false e later k = behind first v vs j (later k)

pub at_flagged : (first : ℕ) (vs : List ℕ) (i : ℕ) → i < length vs → get_or vs i 0 ≡ 1 → Has (flagged first vs) (first + i)
at_flagged first [] i l one = absurd (omega (arith, l))
at_flagged first (v ∷ vs) zero l one = by (v == 1) (eq-eqb v 1 one)
  where
    by : (b : Bool) → b ≡ true → Has (if b then (first ∷ flagged (suc first) vs) else flagged (suc first) vs) (first + 0)
    by true e = inl (omega arith)
    by false e = absurd (cc)
at_flagged first (v ∷ vs) (suc i) l one = by (v == 1) (subst (λ k. Has (flagged (suc first) vs) k) (omega arith) (at_flagged (suc first) vs i (omega (arith, l)) one))
  where
    by : (b : Bool) → Has (flagged (suc first) vs) (first + suc i) → Has (if b then (first ∷ flagged (suc first) vs) else flagged (suc first) vs) (first + suc i)
    by true h = inr h
    by false h = h

pub flagged_ascend : (first : ℕ) (vs : List ℕ) → IsStrictlySortedBy nat_cmp (flagged first vs)
unfolding IsStrictlySortedBy
flagged_ascend first [] = tt
flagged_ascend first (v ∷ vs) = by (v == 1) (flagged_ascend (suc first) vs)
  where
    above : AllByRecursion (λ y. nat_cmp first y ≡ Less) (flagged (suc first) vs)
    above = every_from_members (λ y. nat_cmp first y ≡ Less) (flagged (suc first) vs) (λ y h. let (i, l, one, e) = flagged_at (suc first) vs y h in less first y (omega (arith, e)))
      where
        less : (a b : ℕ) → a < b → nat_cmp a b ≡ Less
        less a b h = grind arith

    by : (b : Bool) → IsStrictlySortedBy nat_cmp (flagged (suc first) vs) → IsStrictlySortedBy nat_cmp (if b then (first ∷ flagged (suc first) vs) else flagged (suc first) vs)
    by true rest = (above, rest)
    by false rest = rest

-- the parts of a room's numbers
pub flag_is : (n : ℕ) (ns : List ℕ) (i : ℕ) → i < n → get_or (flags_in n ns) i 0 ≡ flag_at ns i
flag_is n ns i l = get_or-take n (drop 2 ns) i 0 l ∙ get_or-drop 2 ns i 0

pub output_is : (n m : ℕ) (ns : List ℕ) (i : ℕ) → i < m → get_or (outputs_in n m ns) i 0 ≡ output_at n ns i
output_is n m ns i l = get_or-take m (drop (2 + n) ns) i 0 l ∙ get_or-drop (2 + n) ns i 0

pub look_is : (n m : ℕ) (ns : List ℕ) (i : ℕ) → get_or (looks_in n m ns) i 0 ≡ get_or ns (2 + n + m + i) 0
look_is n m ns i = get_or-drop (2 + n + m) ns i 0
