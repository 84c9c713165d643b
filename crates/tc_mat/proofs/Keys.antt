-- Matrices as the keys of a set.
use Rattle.std.proofs.Common.{◌≡◌, ℕ, zero, suc, List, [], ◌∷◌, ◌++◌, refl, ap, ◌∙◌, sym, Bool, true, false, ◌||◌, ◌&&◌, cond, Some, slice_get, position, length, get_or, nat_eq, subst}
use Rattle.std.specs.List.{list_any, IsDistinct, AllByRecursion, All}
use Rattle.std.specs.Ordering.{on, eq_of_both}
use Rattle.std.specs.Cmp.Lexicographic.{pointwise, bytes_decides}
use borrow.Author.Tests.{eqb-true, eqb-false}
use Rattle.std.proofs.lemmas.List.Quantifiers.{position-Some}
use Rattle.std.proofs.lemmas.Option.{slice_get-get_or, get_or_from_slice_get, slice_get_within}
use Rattle.indexmap.specs.IndexSet.{insert_key}
use Rattle.tc_mat.specs.Matrix.{Matrix, IsMatrix, HaveSamePairs}
use Rattle.tc_mat.proofs.Sets.{matrix, one_form}

-- the test by which the set compares
abbrev pub same_matrix : Matrix → Matrix → Bool
same_matrix = eq_of_both (on (λ m. m.size) nat_eq) (on (λ m. m.words) (pointwise nat_eq))

and_left : (a b : Bool) → (a && b) ≡ true → a ≡ true
and_left true b e = refl
and_left false b e = cc

and_right : (a b : Bool) → (a && b) ≡ true → b ≡ true
and_right true b e = e
and_right false b e = cc

both : (a b : Bool) → a ≡ true → b ≡ true → (a && b) ≡ true
both a b p q = cc

pub same_true : (a b : Matrix) → same_matrix a b ≡ true → a ≡ b
same_true a b e =
    let size = eqb-true a.size b.size (and_left (nat_eq a.size b.size) (pointwise nat_eq a.words b.words) e) in
    let words = (bytes_decides a.words b.words).0 (and_right (nat_eq a.size b.size) (pointwise nat_eq a.words b.words) e) in
    ap (λ n. matrix n a.words) size ∙ ap (matrix b.size) words

pub same_self : (a : Matrix) → same_matrix a a ≡ true
same_self a = both (nat_eq a.size a.size) (pointwise nat_eq a.words a.words) (size (nat_eq a.size a.size) refl) ((bytes_decides a.words a.words).1 refl)
  where
    size : (b : Bool) → nat_eq a.size a.size ≡ b → b ≡ true
    size true e = refl
    size false e = absurd (eqb-false a.size a.size e refl)

abbrev Has : List Matrix → Matrix → Type 0
Has ks m = (i : ℕ) × (slice_get ks i ≡ Some m)

or_left : (a b : Bool) → (a || b) ≡ false → a ≡ false
or_left true b e = cc
or_left false b e = refl

or_right : (a b : Bool) → (a || b) ≡ false → b ≡ false
or_right true b e = cc
or_right false b e = e

-- where no key is the matrix, it isn't held
pub not_held : (m : Matrix) (ks : List Matrix) → list_any (same_matrix m) ks ≡ false → Has ks m → ⊥
not_held m [] e h = cc h.1
not_held m (x ∷ xs) e (zero, at) =
    let same : same_matrix m x ≡ true = subst (λ k. same_matrix m k ≡ true) (sym (cc at)) (same_self m) in
    let other = or_left (same_matrix m x) (list_any (same_matrix m) xs) e in cc
not_held m (x ∷ xs) e (suc i, at) = not_held m xs (or_right (same_matrix m x) (list_any (same_matrix m) xs) e) (i, at)

-- and where some key is, it is
pub held : (m : Matrix) (ks : List Matrix) → list_any (same_matrix m) ks ≡ true → Has ks m
held m [] e = cc
held m (x ∷ xs) e = by (same_matrix m x) refl (held m xs)
  where
    by : (b : Bool) → same_matrix m x ≡ b → (list_any (same_matrix m) xs ≡ true → Has xs m) → Has (x ∷ xs) m
    by true is rest = (zero, ap Some (sym (same_true m x is)))
    by false is rest = let r = rest (sym (ap (λ c. c || list_any (same_matrix m) xs) is) ∙ e) in (suc r.0, r.1)

-- the place that the test finds holds the matrix
pub found_at : (m : Matrix) (ks : List Matrix) (i : ℕ) → position (same_matrix m) ks ≡ Some i → slice_get ks i ≡ Some m
found_at m [] i e = cc
found_at m (x ∷ xs) i e =
    let h = position-Some (same_matrix m) (x ∷ xs) i x e in
    slice_get-get_or (x ∷ xs) i x h.0 ∙ ap Some (sym (same_true m (get_or (x ∷ xs) i x) h.1))

-- an absent matrix goes last
pub grown : (m : Matrix) (ks : List Matrix) → (Has ks m → ⊥) → insert_key same_matrix ks m ≡ ks ++ m ∷ []
grown m ks absent = by (list_any (same_matrix m) ks) refl
  where
    by : (b : Bool) → list_any (same_matrix m) ks ≡ b → insert_key same_matrix ks m ≡ ks ++ m ∷ []
    by true e = absurd (absent (held m ks e))
    by false e = ap (λ b. cond b ks (ks ++ m ∷ [])) e

pub last_at : (m : Matrix) (ks : List Matrix) → slice_get (ks ++ m ∷ []) (length ks) ≡ Some m
last_at m [] = refl
last_at m (k ∷ ks) = last_at m ks

-- no key after x is x
none_later : (x : Matrix) (ks : List Matrix) (j : ℕ) → AllByRecursion (λ y. same_matrix x y ≡ false) ks → slice_get ks j ≡ Some x → ⊥
none_later x [] j a e = cc
none_later x (y ∷ ys) zero a e =
    let same : same_matrix x y ≡ true = subst (λ k. same_matrix x k ≡ true) (sym (cc e)) (same_self x) in
    let other = a.0 in cc
none_later x (y ∷ ys) (suc j) a e = none_later x ys j a.1 e

pub different : (ks : List Matrix) → IsDistinct same_matrix ks → (i j : ℕ) (m : Matrix) → slice_get ks i ≡ Some m → slice_get ks j ≡ Some m → i ≡ j
unfolding IsDistinct
different [] u i j m p q = cc
different (x ∷ xs) u zero zero m p q = refl
different (x ∷ xs) u zero (suc j) m p q = absurd (none_later x xs j u.0 (q ∙ sym p))
different (x ∷ xs) u (suc i) zero m p q = absurd (none_later x xs i u.0 (p ∙ sym q))
different (x ∷ xs) u (suc i) (suc j) m p q = ap suc (different xs u.1 i j m p q)

at_all : (P : Matrix → Type 0) (ks : List Matrix) (i : ℕ) (m : Matrix) → All P ks → slice_get ks i ≡ Some m → P m
at_all P ks i m a e = subst P (get_or_from_slice_get ks i m m e) (a i m (slice_get_within ks i m e))

-- no two places hold the same pairs
pub different_sets : (n : ℕ) (ks : List Matrix) → IsDistinct same_matrix ks → All (λ m. (m.size ≡ n) × IsMatrix m) ks
    → (i j : ℕ) (a b : Matrix) → slice_get ks i ≡ Some a → slice_get ks j ≡ Some b → HaveSamePairs a b → i ≡ j
different_sets n ks u all i j a b p q same =
    let x : (a.size ≡ n) × IsMatrix a = at_all (λ m. (m.size ≡ n) × IsMatrix m) ks i a all p in
    let y : (b.size ≡ n) × IsMatrix b = at_all (λ m. (m.size ≡ n) × IsMatrix m) ks j b all q in
    different ks u i j b (p ∙ ap Some (one_form a b x.1 y.1 (x.0 ∙ sym y.0) same)) q
