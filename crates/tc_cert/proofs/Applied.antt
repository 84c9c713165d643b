-- Changes that are made one by one.
use Rattle.std.proofs.Common.{◌≡◌, ◌<◌, ◌≤◌, ◌+◌, ◌-◌, ℕ, zero, suc, List, [], ◌∷◌, ◌++◌, length, take, drop, get_or, set, refl, sym, ap, ◌∙◌, arith}
use Rattle.std.proofs.lemmas.List.{drop_more}
use Rattle.tc_model.specs.CertificateLines.{changes}
use Rattle.tc_cert.specs.NextRows.{AreChanged, IsNextChange}
use Rattle.tc_cert.proofs.Differing.{IsFirstChange, first_change, no_differing, one_more_change}

-- the list so far, after so many changes of which none stands from the next place on
pub record AppliesSoFar (old now : List ℕ) (cs : List (ℕ × ℕ)) (count next : ℕ) : Type 0 where
  pub long : length now ≡ length old
  pub within : next ≤ length old
  pub same : drop next now ≡ drop next old
  pub so_far : changes 0 old now ≡ take count cs
  pub left : (new : List ℕ) → AreChanged old cs new → changes next (drop next old) (drop next new) ≡ drop count cs

pub begun : (old : List ℕ) (cs : List (ℕ × ℕ)) → AppliesSoFar old old cs 0 0
begun old cs = record { long = refl; within = omega arith; same = refl; so_far = no_differing 0 old; left = λ new a. a.are }

pub finished : {old now : List ℕ} {cs : List (ℕ × ℕ)} {count next : ℕ} → AppliesSoFar old now cs count next → length cs ≤ count → AreChanged old cs now
finished {cs = cs} {count = count} a h = record { long = a.long; are = a.so_far ∙ all count cs h }
  where
    all : (n : ℕ) (l : List (ℕ × ℕ)) → length l ≤ n → take n l ≡ l
    all zero [] h = refl
    all zero (x ∷ l) h = absurd (omega (arith, h))
    all (suc n) [] h = refl
    all (suc n) (x ∷ l) h = ap (λ w. x ∷ w) (all n l (omega (arith, h)))

long_drop : (n : ℕ) (xs ys : List ℕ) → length xs ≡ length ys → length (drop n xs) ≡ length (drop n ys)
long_drop zero xs ys e = e
long_drop (suc n) [] [] e = refl
long_drop (suc n) [] (y ∷ ys) e = absurd (omega (arith, e))
long_drop (suc n) (x ∷ xs) [] e = absurd (omega (arith, e))
long_drop (suc n) (x ∷ xs) (y ∷ ys) e = long_drop n xs ys (omega (arith, e))

get_drop : (n k : ℕ) (xs : List ℕ) → get_or (drop n xs) k 0 ≡ get_or xs (n + k) 0
get_drop zero k xs = ap (λ j. get_or xs j 0) (omega arith)
get_drop (suc n) k [] = refl
get_drop (suc n) k (x ∷ xs) = get_drop n k xs ∙ sym (shift (suc n + k) (n + k) (omega arith))
  where
    shift : (i j : ℕ) → i ≡ suc j → get_or (x ∷ xs) i 0 ≡ get_or xs j 0
    shift i j e = ap (λ m. get_or (x ∷ xs) m 0) e

length_drop : (n : ℕ) (xs : List ℕ) → n ≤ length xs → length (drop n xs) + n ≡ length xs
length_drop zero xs h = omega arith
length_drop (suc n) [] h = absurd (omega (arith, h))
length_drop (suc n) (x ∷ xs) h = omega (arith, length_drop n xs (omega (arith, h)))

drop_nil : (i : ℕ) → drop {A = ℕ} i [] ≡ []
drop_nil zero = refl
drop_nil (suc i) = refl

drop_drop : (n k : ℕ) (xs : List ℕ) → drop k (drop n xs) ≡ drop (n + k) xs
drop_drop zero k xs = ap (λ j. drop j xs) (omega arith)
drop_drop (suc n) k [] = drop_nil k ∙ sym (drop_nil (suc n + k))
drop_drop (suc n) k (x ∷ xs) = drop_drop n k xs ∙ sym (shift (suc n + k) (n + k) (omega arith))
  where
    shift : (i j : ℕ) → i ≡ suc j → drop i (x ∷ xs) ≡ drop j xs
    shift i j e = ap (λ m. drop m (x ∷ xs)) e

same_at : (next : ℕ) (old now : List ℕ) (k : ℕ) → drop next now ≡ drop next old → get_or now (next + k) 0 ≡ get_or old (next + k) 0
same_at next old now k e = sym (get_drop next k now) ∙ ap (λ l. get_or l k 0) e ∙ get_drop next k old

-- where the list is one that changes make, its next change is such a one, and what is left is left
step : {old now : List ℕ} {cs : List (ℕ × ℕ)} {count next : ℕ} (p v : ℕ) → AppliesSoFar old now cs count next → count < length cs → get_or cs count (0, 0) ≡ (p, v)
    → (new : List ℕ) → AreChanged old cs new → IsNextChange now next p v × (changes (p + 1) (drop (p + 1) old) (drop (p + 1) new) ≡ drop (count + 1) cs)
step {old = old} {now = now} {cs = cs} {count = count} {next = next} p v a h e new are =
    let cut : drop count cs ≡ (p, v) ∷ drop (count + 1) cs = drop_more cs count (0, 0) h ∙ ap (λ c. c ∷ drop (count + 1) cs) e in
    let first : (k : ℕ) × IsFirstChange next (drop next old) (drop next new) p v (drop (count + 1) cs) k
    = first_change next (drop next old) (drop next new) p v (drop (count + 1) cs) (long_drop next new old are.long) (a.left new are ∙ cut) in
    by first.0 first.1
  where
    by : (k : ℕ) → IsFirstChange next (drop next old) (drop next new) p v (drop (count + 1) cs) k → IsNextChange now next p v × (changes (p + 1) (drop (p + 1) old) (drop (p + 1) new) ≡ drop (count + 1) cs)
    by k f =
        let place : next + k ≡ p = sym f.place in
        let behind : next + (k + 1) ≡ p + 1 = omega (arith, place) in
        let was : get_or (drop next old) k 0 ≡ get_or now p 0 = get_drop next k old ∙ sym (same_at next old now k a.same) ∙ ap (λ j. get_or now j 0) place in (
          record {
            from = omega (arith, place);
            within = omega (arith, place, f.within, length_drop next old a.within, a.long);
            differs = λ z. f.differs (was ∙ z);
          },
          (λ i. changes (p + 1) (sym (drop_drop next (k + 1) old ∙ ap (λ j. drop j old) behind) i) (sym (drop_drop next (k + 1) new ∙ ap (λ j. drop j new) behind) i)) ∙ f.left,
        )

pub no_more : {old now : List ℕ} {cs : List (ℕ × ℕ)} {count next : ℕ} (p v : ℕ) → AppliesSoFar old now cs count next → count < length cs → get_or cs count (0, 0) ≡ (p, v)
    → (IsNextChange now next p v → ⊥) → (new : List ℕ) → AreChanged old cs new → ⊥
no_more p v a h e bar new are = bar (step p v a h e new are).0

take_snoc : (n : ℕ) (cs : List (ℕ × ℕ)) (c : ℕ × ℕ) → n < length cs → get_or cs n (0, 0) ≡ c → take (n + 1) cs ≡ take n cs ++ c ∷ []
take_snoc n [] c h e = absurd (omega (arith, h))
take_snoc zero (x ∷ cs) c h e = ap (λ y. y ∷ []) e
take_snoc (suc n) (x ∷ cs) c h e = shift (suc n + 1) (n + 1) (omega arith) ∙ ap (λ l. x ∷ l) (take_snoc n cs c (omega (arith, h)) e)
  where
    shift : (i j : ℕ) → i ≡ suc j → take i (x ∷ cs) ≡ x ∷ take j cs
    shift i j e = ap (λ m. take m (x ∷ cs)) e

set_long : (xs : List ℕ) (i v : ℕ) → length (set xs i v) ≡ length xs
set_long [] i v = refl
set_long (x ∷ xs) zero v = refl
set_long (x ∷ xs) (suc i) v = ap suc (set_long xs i v)

set_behind : (xs : List ℕ) (i v : ℕ) → drop (i + 1) (set xs i v) ≡ drop (i + 1) xs
set_behind [] i v = refl
set_behind (x ∷ xs) zero v = refl
set_behind (x ∷ xs) (suc i) v = shift (suc i + 1) (i + 1) (omega arith) (set xs i v) ∙ set_behind xs i v ∙ sym (shift (suc i + 1) (i + 1) (omega arith) xs)
  where
    shift : (i j : ℕ) → i ≡ suc j → (l : List ℕ) → drop i (x ∷ l) ≡ drop j l
    shift i j e l = ap (λ m. drop m (x ∷ l)) e

pub one_more : {old now : List ℕ} {cs : List (ℕ × ℕ)} {count next : ℕ} (p v : ℕ) → AppliesSoFar old now cs count next → count < length cs → get_or cs count (0, 0) ≡ (p, v)
    → IsNextChange now next p v → AppliesSoFar old (set now p v) cs (count + 1) (p + 1)
one_more {old = old} {now = now} {cs = cs} {count = count} {next = next} p v a h e n = record {
  long = set_long now p v ∙ a.long;
  within = omega (arith, n.within, a.long);
  same = set_behind now p v ∙ further;
  so_far = one_more_change 0 old now next p v a.long a.same n.from (omega (arith, n.within, a.long)) n.differs ∙ (λ i. a.so_far i ++ (zero_plus i, v) ∷ []) ∙ sym (take_snoc count cs (p, v) h e);
  left = λ new are. (step p v a h e new are).1;
}
  where
    zero_plus : 0 + p ≡ p
    zero_plus = omega arith

    gap : next + (p + 1 - next) ≡ p + 1
    gap = omega (arith, n.from)

    further : drop (p + 1) now ≡ drop (p + 1) old
    further = sym (drop_drop next (p + 1 - next) now ∙ ap (λ j. drop j now) gap) ∙ ap (drop (p + 1 - next)) a.same ∙ drop_drop next (p + 1 - next) old ∙ ap (λ j. drop j old) gap
