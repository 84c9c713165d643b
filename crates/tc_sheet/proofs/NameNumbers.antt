-- The number of a name in a list of names of which no two are the same.
use Rattle.std.proofs.Common.{◌≡◌, ℕ, zero, suc, ◌+◌, ◌<◌, Bool, true, false, ◌&&◌, ◌||◌, List, [], ◌∷◌, refl, ap, ◌∙◌, sym, subst, arith, None, Some, length, Contains, slice_get, if◌then◌else◌, true≢false, bytes_eq}
use Rattle.std.proofs.lemmas.Slice.Eq.{bytes_eq-Decides}
use Rattle.std.specs.List.{AllByRecursion, IsDistinct, list_any}
use Rattle.tc_model.specs.Names.{ExpandedName, same_name}
use Rattle.tc_model.specs.Numbered.{number_of}

both_true : (a b : Bool) → (a && b) ≡ true → (a ≡ true) × (b ≡ true)
both_true true b e = (refl, e)
both_true false b e = cc

pub same_is : (n m : ExpandedName) → same_name n m ≡ true → n ≡ m
same_is n m e =
    let both = both_true (bytes_eq n.uri m.uri) (bytes_eq n.local m.local) e in
    let first : n.uri ≡ m.uri = (bytes_eq-Decides n.uri m.uri).0 both.0 in
    let second : n.local ≡ m.local = (bytes_eq-Decides n.local m.local).0 both.1 in
    ap (λ u. record { uri = u; local = n.local }) first ∙ ap (λ l. record { uri = m.uri; local = l }) second

pub is_same : (n : ExpandedName) → same_name n n ≡ true
is_same n = ap (λ b. b && bytes_eq n.local n.local) ((bytes_eq-Decides n.uri n.uri).1 refl) ∙ (bytes_eq-Decides n.local n.local).1 refl

pub same_some : {X : Type 0} {x y : X} → Some x ≡ Some y → x ≡ y
same_some e = cc

pub no_some : {X : Type 0} {x : X} → None ≡ Some x → ⊥
no_some e = cc

-- one that is in a list is found there
pub listed : (n : ExpandedName) (ns : List ExpandedName) → Contains ns n → list_any (same_name n) ns ≡ true
listed n [] (k, l, e) = absurd (omega (arith, l))
listed n (m ∷ ns) (zero, l, e) = ap (λ b. b || list_any (same_name n) ns) (subst (λ z. same_name n z ≡ true) (sym e) (is_same n))
listed n (m ∷ ns) (suc k, l, e) = by (same_name n m) (listed n ns (k, omega (arith, l), e))
  where
    by : (b : Bool) → list_any (same_name n) ns ≡ true → (b || list_any (same_name n) ns) ≡ true
    by true h = refl
    by false h = h

pub contained : (n : ExpandedName) (ns : List ExpandedName) → list_any (same_name n) ns ≡ true → Contains ns n
contained n [] h = absurd (true≢false (sym h))
contained n (m ∷ ns) h = by (same_name n m) refl h (contained n ns)
  where
    more : Contains ns n → Contains (m ∷ ns) n
    more (k, l, e) = (suc k, omega (arith, l), e)

    by : (b : Bool) → same_name n m ≡ b → (b || list_any (same_name n) ns) ≡ true → (list_any (same_name n) ns ≡ true → Contains ns n) → Contains (m ∷ ns) n
    by true e h f = (0, omega arith, sym (same_is n m e))
    by false e h f = more (f h)

-- and has a number below their count
pub number_below : (n : ExpandedName) (xs : List ExpandedName) → list_any (same_name n) xs ≡ true → number_of same_name n xs < length xs
number_below n [] e = absurd (true≢false (sym e))
number_below n (x ∷ xs) e = by (same_name n x) e (number_below n xs)
  where
    by : (b : Bool) → (b || list_any (same_name n) xs) ≡ true → (list_any (same_name n) xs ≡ true → number_of same_name n xs < length xs) → (if b then 0 else (number_of same_name n xs + 1)) < length (x ∷ xs)
    by true f more = omega arith
    by false f more = let later = more f in omega (arith, later)

-- at its number it stands
pub number_found : (n : ExpandedName) (ns : List ExpandedName) → number_of same_name n ns < length ns → slice_get ns (number_of same_name n ns) ≡ Some n
number_found n [] l = absurd (omega (arith, l))
number_found n (m ∷ ns) l = by (same_name n m) refl l (number_found n ns)
  where
    by : (b : Bool) → same_name n m ≡ b → (if b then 0 else (number_of same_name n ns + 1)) < length (m ∷ ns)
        → (number_of same_name n ns < length ns → slice_get ns (number_of same_name n ns) ≡ Some n) → slice_get (m ∷ ns) (if b then 0 else (number_of same_name n ns + 1)) ≡ Some n
    by true e l f = ap Some (sym (same_is n m e))
    by false e l f = let one : number_of same_name n ns + 1 ≡ suc (number_of same_name n ns) = omega arith in ap (slice_get (m ∷ ns)) one ∙ f (omega (arith, l))

-- and where it stands is its number
pub number_is : (n : ExpandedName) (ns : List ExpandedName) (k : ℕ) → IsDistinct same_name ns → slice_get ns k ≡ Some n → number_of same_name n ns ≡ k
unfolding IsDistinct
number_is n [] k d e = absurd (no_some e)
number_is n (m ∷ ns) zero d e = ap (λ b. if b then 0 else (number_of same_name n ns + 1)) (subst (λ z. same_name n z ≡ true) (sym (same_some e)) (is_same n))
number_is n (m ∷ ns) (suc k) d e = by (same_name n m) refl (number_is n ns k d.1 e)
  where
    at : (xs : List ExpandedName) (j : ℕ) → AllByRecursion (λ y. same_name m y ≡ false) xs → slice_get xs j ≡ Some n → same_name m n ≡ false
    at [] j h f = absurd (no_some f)
    at (x ∷ xs) zero h f = subst (λ z. same_name m z ≡ false) (same_some f) h.0
    at (x ∷ xs) (suc j) h f = at xs j h.1 f

    by : (b : Bool) → same_name n m ≡ b → number_of same_name n ns ≡ k → (if b then 0 else (number_of same_name n ns + 1)) ≡ suc k
    by true f is = absurd (true≢false (sym (subst (λ z. same_name z n ≡ true) (same_is n m f) (is_same n)) ∙ at ns k d.0 e))
    by false f is = omega (arith, is)

-- names of one number are one
pub number_tells : (n m : ExpandedName) (ns : List ExpandedName) → number_of same_name n ns < length ns → number_of same_name n ns ≡ number_of same_name m ns → n ≡ m
number_tells n m ns l e =
    let here = number_found n ns l in
    let there = number_found m ns (subst (λ k. k < length ns) e l) in
    same_some (sym here ∙ (ap (slice_get ns) e ∙ there))
