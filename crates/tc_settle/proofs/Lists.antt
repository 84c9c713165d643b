-- Lists with one more at the end.
use Rattle.std.proofs.Common.{◌≡◌, ℕ, zero, suc, ◌+◌, ◌<◌, List, [], ◌∷◌, ◌++◌, refl, ap, ◌∙◌, length, get_or, slice_index, slice_get, Some, rules, length-append}
use Rattle.std.proofs.Math.ListN.{get_or-append}

pub same_before : (xs ys : List ℕ) (x i : ℕ) → ys ≡ xs ++ x ∷ [] → i < length xs → slice_index ys i ≡ slice_index xs i
same_before xs ys x i e low = ap (λ l. get_or l i 0) e ∙ get_or-append xs (x ∷ []) 0 i low

pub longer : {A : Type 0} (xs ys : List A) (x : A) → ys ≡ xs ++ x ∷ [] → length ys ≡ length xs + 1
longer xs ys x e = ap length e ∙ length-append xs (x ∷ [])

number_at_end : (l : List ℕ) (y : ℕ) → get_or (l ++ y ∷ []) (length l) 0 ≡ y
number_at_end [] y = refl
number_at_end (z ∷ l) y = number_at_end l y

pub last_of : (xs ys : List ℕ) (x i : ℕ) → ys ≡ xs ++ x ∷ [] → i ≡ length xs → slice_index ys i ≡ x
last_of xs ys x i e same = ap (λ l. get_or l i 0) e ∙ (ap (λ k. get_or (xs ++ x ∷ []) k 0) same ∙ number_at_end xs x)

before_end : {A : Type 0} (x y : A) (l : List A) (k : ℕ) → slice_get l k ≡ Some y → slice_get (l ++ x ∷ []) k ≡ Some y
before_end x y [] k f = search rules
before_end x y (z ∷ l) zero f = f
before_end x y (z ∷ l) (suc k) f = before_end x y l k f

pub kept_before : {A : Type 0} (xs ys : List A) (x : A) (i : ℕ) (y : A) → ys ≡ xs ++ x ∷ [] → slice_get xs i ≡ Some y → slice_get ys i ≡ Some y
kept_before xs ys x i y e found = ap (λ l. slice_get l i) e ∙ before_end x y xs i found

at_end : {A : Type 0} (x : A) (l : List A) → slice_get (l ++ x ∷ []) (length l) ≡ Some x
at_end x [] = refl
at_end x (z ∷ l) = at_end x l

pub kept_last : {A : Type 0} (xs ys : List A) (x : A) (i : ℕ) → ys ≡ xs ++ x ∷ [] → i ≡ length xs → slice_get ys i ≡ Some x
kept_last xs ys x i e same = ap (λ l. slice_get l i) e ∙ (ap (λ k. slice_get (xs ++ x ∷ []) k) same ∙ at_end x xs)
