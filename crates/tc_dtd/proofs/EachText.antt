-- Each text has a grammar or a refusal.
use Rattle.std.proofs.Common.{◌≡◌, ◌⊎◌, inl, inr, ℕ, Bool, true, false, List, [], ◌∷◌, ◌++◌, refl, sym, subst, bytes_eq, append_assoc, append-nil, ◌-◌}
use Rattle.std.specs.List.{IsDistinct, Contains, AllByRecursion}
use Rattle.tc_dtd.specs.DtdText.{names_of, FirstAgain}
use Rattle.tc_dtd.specs.DtdTextDeclarations.{Placed}
use Rattle.tc_dtd.proofs.NamedLaws.{in_first, in_rest, same_bytes}

-- a name is among others, or differs from each
among : (n : List ℕ) (ns : List (List ℕ)) → Contains ns n ⊎ AllByRecursion (λ m. bytes_eq m n ≡ false) ns
among n [] = inr tt
among n (m ∷ ms) = by (bytes_eq m n) refl (among n ms)
  where
    by : (b : Bool) → bytes_eq m n ≡ b → Contains ms n ⊎ AllByRecursion (λ m. bytes_eq m n ≡ false) ms → Contains (m ∷ ms) n ⊎ AllByRecursion (λ m. bytes_eq m n ≡ false) (m ∷ ms)
    by true e k = inl (subst (λ z. Contains (z ∷ ms) n) (sym (same_bytes m n e)) (in_first n ms))
    by false e (inl k) = inl (in_rest m ms n k)
    by false e (inr k) = inr (e, k)

all_before : (P : List ℕ → Type 0) (xs : List Placed) (x : Placed) → AllByRecursion P (names_of xs) → P x.declaration.name → AllByRecursion P (names_of (xs ++ x ∷ []))
all_before P [] x a p = (p, tt)
all_before P (y ∷ ys) x a p = (a.0, all_before P ys x a.1 p)

one_more : (xs : List Placed) (x : Placed) → IsDistinct bytes_eq (names_of xs) → AllByRecursion (λ m. bytes_eq m x.declaration.name ≡ false) (names_of xs) → IsDistinct bytes_eq (names_of (xs ++ x ∷ []))
unfolding IsDistinct
one_more [] x u a = (tt, tt)
one_more (y ∷ ys) x u a = (all_before (λ m. bytes_eq y.declaration.name m ≡ false) ys x u.0 a.0, one_more ys x u.1 a.1)

-- elements are declared once, or there is a first that is declared again
pub once_or_again : (before rest : List Placed) → IsDistinct bytes_eq (names_of before) → IsDistinct bytes_eq (names_of (before ++ rest)) ⊎ ((p : ℕ) × FirstAgain (before ++ rest) p)
once_or_again before [] u = inl (subst (λ w. IsDistinct bytes_eq (names_of w)) (sym (append-nil before)) u)
once_or_again before (x ∷ rest) u = by (among x.declaration.name (names_of before)) (λ k. once_or_again (before ++ x ∷ []) rest (one_more before x u k))
  where
    later : IsDistinct bytes_eq (names_of ((before ++ x ∷ []) ++ rest)) ⊎ ((p : ℕ) × FirstAgain ((before ++ x ∷ []) ++ rest) p) → IsDistinct bytes_eq (names_of (before ++ x ∷ rest)) ⊎ ((p : ℕ) × FirstAgain (before ++ x ∷ rest) p)
    later k = subst (λ w. IsDistinct bytes_eq (names_of w) ⊎ ((p : ℕ) × FirstAgain w p)) (append_assoc before (x ∷ []) rest) k

    by : Contains (names_of before) x.declaration.name ⊎ AllByRecursion (λ m. bytes_eq m x.declaration.name ≡ false) (names_of before)
        → (AllByRecursion (λ m. bytes_eq m x.declaration.name ≡ false) (names_of before) → IsDistinct bytes_eq (names_of ((before ++ x ∷ []) ++ rest)) ⊎ ((p : ℕ) × FirstAgain ((before ++ x ∷ []) ++ rest) p))
        → IsDistinct bytes_eq (names_of (before ++ x ∷ rest)) ⊎ ((p : ℕ) × FirstAgain (before ++ x ∷ rest) p)
    by (inl k) go = inr (x.place, record { before = before; again = x; behind = rest; parts = refl; once = u; twice = k; stands = refl })
    by (inr k) go = later (go k)

pub distinct_none : IsDistinct bytes_eq (names_of [])
unfolding IsDistinct
distinct_none = tt
