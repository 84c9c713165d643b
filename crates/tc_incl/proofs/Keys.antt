-- Keys that a set holds, each once, by a test that tells equal ones.
use Rattle.std.proofs.Common.{◌≡◌, ◌⊎◌, inl, inr, ℕ, zero, suc, List, [], ◌∷◌, ◌++◌, refl, ap, ◌∙◌, sym, subst, Bool, true, false, ◌&&◌, cond, nat_eq, eqb-true, eq-eqb, Some, slice_get, length}
use Rattle.std.specs.List.{list_any, IsDistinct, AllByRecursion}
use Rattle.std.proofs.lemmas.Bool.{true≢false}
use Rattle.std.proofs.lemmas.Option.{same_Some}
use Rattle.std.specs.Bool.{beq}
use Rattle.std.specs.Ordering.{on, eq_of_both}
use Rattle.std.specs.Cmp.Lexicographic.{pointwise, bytes_decides}
use Rattle.indexmap.specs.IndexSet.{insert_key}
use Rattle.tc_rows.specs.Counts.{AreDifferent}
use Rattle.tc_sets.specs.Numbers.{Numbers}
use Rattle.tc_incl.specs.declared.rows.Row.{Row}

module _ {K : Type 0} (same : K → K → Bool) (exact : (a b : K) → same a b ≡ true → a ≡ b) (itself : (a : K) → same a a ≡ true) where
  -- where no key passes the test, the key comes last
  pub kept_or_last : (k : K) (ks : List K) → (list_any (same k) ks ≡ true) × (insert_key same ks k ≡ ks) ⊎ (insert_key same ks k ≡ ks ++ k ∷ [])
  kept_or_last k ks = by (list_any (same k) ks) refl
    where
      by : (b : Bool) → list_any (same k) ks ≡ b → (list_any (same k) ks ≡ true) × (insert_key same ks k ≡ ks) ⊎ (insert_key same ks k ≡ ks ++ k ∷ [])
      by true e = inl (e, ap (λ b. cond b ks (ks ++ k ∷ [])) e)
      by false e = inr (ap (λ b. cond b ks (ks ++ k ∷ [])) e)

  -- no key after x is x
  none_later : (x : K) (ks : List K) (j : ℕ) → AllByRecursion (λ y. same x y ≡ false) ks → slice_get ks j ≡ Some x → ⊥
  none_later x [] j a e = absurd (cc)
  none_later x (y ∷ ys) zero a e = true≢false (sym (itself x) ∙ subst (λ k. same x k ≡ false) (same_Some y x e) a.0)
  none_later x (y ∷ ys) (suc j) a e = none_later x ys j a.1 e

  pub different : (ks : List K) → IsDistinct same ks → AreDifferent ks
  unfolding IsDistinct
  different [] u i j m p q = absurd (cc)
  different (x ∷ xs) u zero zero m p q = refl
  different (x ∷ xs) u zero (suc j) m p q = absurd (none_later x xs j u.0 (q ∙ sym p))
  different (x ∷ xs) u (suc i) zero m p q = absurd (none_later x xs i u.0 (p ∙ sym q))
  different (x ∷ xs) u (suc i) (suc j) m p q = ap suc (different xs u.1 i j m p q)

pub last_at : {K : Type 0} (k : K) (ks : List K) → slice_get (ks ++ k ∷ []) (length ks) ≡ Some k
last_at k [] = refl
last_at k (x ∷ xs) = last_at k xs

-- the test by which rows are compared
abbrev pub same_set : Numbers → Numbers → Bool
same_set = eq_of_both (on (λ s. s.size) nat_eq) (on (λ s. s.words) (pointwise nat_eq))

abbrev pub same_row : Row → Row → Bool
same_row a b = beq a.text b.text && (same_set a.first b.first && same_set a.second b.second)

and_left : (a b : Bool) → (a && b) ≡ true → a ≡ true
and_left true b e = refl
and_left false b e = absurd (true≢false (sym e))

and_right : (a b : Bool) → (a && b) ≡ true → b ≡ true
and_right true b e = e
and_right false b e = absurd (true≢false (sym e))

both : (a b : Bool) → a ≡ true → b ≡ true → (a && b) ≡ true
both true b p q = q
both false b p q = absurd (true≢false (sym p))

set_exact : (a b : Numbers) → same_set a b ≡ true → a ≡ b
set_exact a b e =
    let size : a.size ≡ b.size = eqb-true a.size b.size (and_left (nat_eq a.size b.size) (pointwise nat_eq a.words b.words) e) in
    let words : a.words ≡ b.words = (bytes_decides a.words b.words).0 (and_right (nat_eq a.size b.size) (pointwise nat_eq a.words b.words) e) in
    λ i. record { size = size i; words = words i }

set_itself : (a : Numbers) → same_set a a ≡ true
set_itself a = both (nat_eq a.size a.size) (pointwise nat_eq a.words a.words) (eq-eqb a.size a.size refl) ((bytes_decides a.words a.words).1 refl)

bool_exact : (a b : Bool) → beq a b ≡ true → a ≡ b
bool_exact true true e = refl
bool_exact true false e = absurd (true≢false (sym e))
bool_exact false true e = absurd (true≢false (sym e))
bool_exact false false e = refl

bool_itself : (a : Bool) → beq a a ≡ true
bool_itself true = refl
bool_itself false = refl

pub row_exact : (a b : Row) → same_row a b ≡ true → a ≡ b
row_exact a b e =
    let rest = and_right (beq a.text b.text) (same_set a.first b.first && same_set a.second b.second) e in
    let text = bool_exact a.text b.text (and_left (beq a.text b.text) (same_set a.first b.first && same_set a.second b.second) e) in
    let first = set_exact a.first b.first (and_left (same_set a.first b.first) (same_set a.second b.second) rest) in
    let second = set_exact a.second b.second (and_right (same_set a.first b.first) (same_set a.second b.second) rest) in
    λ i. record { text = text i; first = first i; second = second i }

pub row_itself : (a : Row) → same_row a a ≡ true
row_itself a = both (beq a.text a.text) (same_set a.first a.first && same_set a.second a.second) (bool_itself a.text) (both (same_set a.first a.first) (same_set a.second a.second) (set_itself a.first) (set_itself a.second))
