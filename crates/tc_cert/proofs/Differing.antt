-- The first places at which lists differ: their order, and changes one by one.
use Rattle.std.proofs.Common.{◌≡◌, ◌<◌, ◌≤◌, ◌≢◌, ◌+◌, ◌==◌, ℕ, zero, suc, min, Bool, true, false, cond, List, [], ◌∷◌, ◌++◌, length, take, drop, get_or, Some, None, Result, Ok, Err, IfOk, ◌^◌, slice_get, set, All, refl, sym, ap, subst, ◌∙◌, append_assoc, arith, decimal}
use Rattle.std.specs.Ordering.{nat_cmp, ordering_then, MatchOrdering}
use Rattle.std.specs.declared.cmp.Ordering.{Ordering}
use Rattle.std.specs.declared.cmp.Ordering.TheVariants.{Less, Equal, Greater}
use Rattle.std.specs.Cmp.{nat_cmp_is, ranked}
use Rattle.std.specs.Cmp.Lexicographic.{slice_cmp}
use Rattle.std.proofs.lemmas.Map.Lookups.{exact_bytes}
use Rattle.std.proofs.lemmas.List.{drop_more}
use Rattle.std.proofs.lemmas.List.Elements.{All-append, All-head, All-tail}
use Rattle.tc_model.specs.CertificateLines.{pair, changes, change_at}
use Rattle.tc_cert.specs.Pieces.{AreNumbers}
use Rattle.tc_cert.specs.Orders.{number_order, numbers_order, pair_order, pairs_order, IsOrderOfChanges}
use Rattle.std.proofs.lemmas.Fmt.{decimal_injective}
use Rattle.tc_cert.proofs.Lists.{one_pairs, all_one}

itself : (x : ℕ) → nat_cmp x x ≡ Equal
itself x = sym (nat_cmp_is x x Equal refl)

next_cmp : (m n : ℕ) → nat_cmp (suc m) (suc n) ≡ nat_cmp m n
next_cmp m n = sym (nat_cmp_is (suc m) (suc n) (nat_cmp m n) (by (nat_cmp m n) (ranked m n (nat_cmp m n) refl)))
  where
    by : (r : Ordering) → MatchOrdering r (m < n) (m ≡ n) (n < m) → MatchOrdering r (suc m < suc n) (suc m ≡ suc n) (suc n < suc m)
    by Less h = omega (arith, h)
    by Equal h = ap suc h
    by Greater h = omega (arith, h)

bytes_itself : (xs : List ℕ) → slice_cmp nat_cmp xs xs ≡ Equal
bytes_itself [] = refl
bytes_itself (x ∷ xs) = ap (λ o. ordering_then o (slice_cmp nat_cmp xs xs)) (itself x) ∙ bytes_itself xs

-- an order of lists, by one of their items
module _ {X : Type 0} (item : X → X → Ordering) where
  abbrev list_cmp : List X → List X → Ordering
  list_cmp xs ys = slice_cmp item xs ys

  pub equal_first : (x y : X) (xs ys : List X) → x ≡ y → item x x ≡ Equal → list_cmp (x ∷ xs) (y ∷ ys) ≡ list_cmp xs ys
  equal_first x y xs ys e h = ap (λ z. ordering_then (item x z) (list_cmp xs ys)) (sym e) ∙ ap (λ o. ordering_then o (list_cmp xs ys)) h

  pub other_first : (x y : X) (xs ys : List X) → (item x y ≡ Equal → ⊥) → list_cmp (x ∷ xs) (y ∷ ys) ≡ item x y
  other_first x y xs ys bar = by (item x y) bar
    where
      by : (o : Ordering) → (o ≡ Equal → ⊥) → ordering_then o (list_cmp xs ys) ≡ o
      by Less b = refl
      by Equal b = absurd (b refl)
      by Greater b = refl

  pub at_end : (i : ℕ) (xs ys : List X) → min (length xs) (length ys) ≤ i → i ≤ min (length xs) (length ys) → list_cmp (drop i xs) (drop i ys) ≡ nat_cmp (length xs) (length ys)
  at_end zero [] [] h k = sym (itself 0)
  at_end zero [] (y ∷ ys) h k = nat_cmp_is 0 (suc (length ys)) Less (omega arith)
  at_end zero (x ∷ xs) [] h k = nat_cmp_is (suc (length xs)) 0 Greater (omega arith)
  at_end zero (x ∷ xs) (y ∷ ys) h k = absurd (omega (arith, h))
  at_end (suc i) [] ys h k = absurd (omega (arith, k))
  at_end (suc i) (x ∷ xs) [] h k = absurd (omega (arith, k))
  at_end (suc i) (x ∷ xs) (y ∷ ys) h k = at_end i xs ys (omega (arith, h)) (omega (arith, k)) ∙ sym (next_cmp (length xs) (length ys))

  -- one place on, where both have the same there
  pub equal_at : (xs ys : List X) (i : ℕ) (d : X) → i < length xs → i < length ys → get_or xs i d ≡ get_or ys i d → item (get_or xs i d) (get_or xs i d) ≡ Equal
      → list_cmp (drop i xs) (drop i ys) ≡ list_cmp (drop (i + 1) xs) (drop (i + 1) ys)
  equal_at xs ys i d h k e q = (λ j. list_cmp (drop_more xs i d h j) (drop_more ys i d k j)) ∙ equal_first (get_or xs i d) (get_or ys i d) (drop (i + 1) xs) (drop (i + 1) ys) e q

  pub other_at : (xs ys : List X) (i : ℕ) (d : X) → i < length xs → i < length ys → (item (get_or xs i d) (get_or ys i d) ≡ Equal → ⊥)
      → list_cmp (drop i xs) (drop i ys) ≡ item (get_or xs i d) (get_or ys i d)
  other_at xs ys i d h k bar = (λ j. list_cmp (drop_more xs i d h j) (drop_more ys i d k j)) ∙ other_first (get_or xs i d) (get_or ys i d) (drop (i + 1) xs) (drop (i + 1) ys) bar

-- what stands at a place
pub got : {X : Type 0} (xs : List X) (i : ℕ) (x d : X) → slice_get xs i ≡ Some x → get_or xs i d ≡ x
got [] i x d e = cc
got (y ∷ ys) zero x d e = cc
got (y ∷ ys) (suc i) x d e = got ys i x d e

-- numbers of the same digits are the same
pub same_number : (m n : ℕ) → (decimal m ≡ decimal n → m ≡ n) → number_order m n ≡ Equal → m ≡ n
same_number m n inj e = inj (exact_bytes (decimal m) (decimal n) e)

pub number_itself : (m : ℕ) → number_order m m ≡ Equal
number_itself m = bytes_itself (decimal m)

-- no change: the same list
pub same_by_test : (m n : ℕ) → (m == n) ≡ true → m ≡ n
same_by_test m n e = grind (arith, e)

pub other_by_test : (m n : ℕ) → (m == n) ≡ false → m ≢ n
other_by_test m n e = grind (arith, e)

test_other : (m n : ℕ) → m ≢ n → (m == n) ≡ false
test_other m n h = grind (arith, h)

pub test_same : (m n : ℕ) → m ≡ n → (m == n) ≡ true
test_same m n h = grind (arith, h)

-- what a change here and changes behind it are
pub change_here : (n m x : ℕ) (cs : List (ℕ × ℕ)) → (m == x) ≡ false → change_at n m x ++ cs ≡ (n, x) ∷ cs
change_here n m x cs q = ap (λ b. cond b [] ((n, x) ∷ []) ++ cs) q

pub none_here : (n m x : ℕ) (cs : List (ℕ × ℕ)) → (m == x) ≡ true → change_at n m x ++ cs ≡ cs
none_here n m x cs q = ap (λ b. cond b [] ((n, x) ∷ []) ++ cs) q

cons_nil : (c : ℕ × ℕ) (cs : List (ℕ × ℕ)) → c ∷ cs ≡ [] → ⊥
cons_nil c cs e = cc

pub first_change_is : (p q : ℕ × ℕ) (cs ds : List (ℕ × ℕ)) → p ∷ cs ≡ q ∷ ds → (p.0 ≡ q.0) × (p.1 ≡ q.1) × (cs ≡ ds)
first_change_is p q cs ds e =
    let same : p ≡ q = cc in
    let tail : cs ≡ ds = cc in
    (ap (λ c. c.0) same, ap (λ c. c.1) same, tail)

pub no_change : (n : ℕ) (old new : List ℕ) → length new ≡ length old → changes n old new ≡ [] → new ≡ old
no_change n [] [] h e = refl
no_change n [] (x ∷ new) h e = absurd (omega (arith, h))
no_change n (m ∷ old) [] h e = absurd (omega (arith, h))
no_change n (m ∷ old) (x ∷ new) h e = by (no_change (n + 1) old new (omega (arith, h))) (m == x) refl
  where
    by : (changes (n + 1) old new ≡ [] → new ≡ old) → (b : Bool) → (m == x) ≡ b → x ∷ new ≡ m ∷ old
    by more true q = let same : m ≡ x = same_by_test m x q in λ i. sym same i ∷ more (sym (none_here n m x (changes (n + 1) old new) q) ∙ e) i
    by more false q = absurd (cons_nil (n, x) (changes (n + 1) old new) (sym (change_here n m x (changes (n + 1) old new) q) ∙ e))

drop_next : (k m : ℕ) (l : List ℕ) → drop (suc k + 1) (m ∷ l) ≡ drop (k + 1) l
drop_next k m l = shift (suc k + 1) (k + 1) (omega arith)
  where
    shift : (i j : ℕ) → i ≡ suc j → drop i (m ∷ l) ≡ drop j l
    shift i j e = ap (λ n. drop n (m ∷ l)) e

-- the first change: where, from what and to what, and what is left
pub record IsFirstChange (n : ℕ) (old new : List ℕ) (p v : ℕ) (rest : List (ℕ × ℕ)) (k : ℕ) : Type 0 where
  pub place : p ≡ n + k
  pub within : k < length old
  pub differs : get_or old k 0 ≢ v
  pub is_new : get_or new k 0 ≡ v
  pub before : take k new ≡ take k old
  pub left : changes (p + 1) (drop (k + 1) old) (drop (k + 1) new) ≡ rest

pub first_change : (n : ℕ) (old new : List ℕ) (p v : ℕ) (rest : List (ℕ × ℕ)) → length new ≡ length old → changes n old new ≡ (p, v) ∷ rest → (k : ℕ) × IsFirstChange n old new p v rest k
first_change n [] [] p v rest h e = absurd (cons_nil (p, v) rest (sym e))
first_change n [] (x ∷ new) p v rest h e = absurd (omega (arith, h))
first_change n (m ∷ old) [] p v rest h e = absurd (omega (arith, h))
first_change n (m ∷ old) (x ∷ new) p v rest h e = by (first_change (n + 1) old new p v rest (omega (arith, h))) (m == x) refl
  where
    shifted : (k : ℕ) → m ≡ x → IsFirstChange (n + 1) old new p v rest k → IsFirstChange n (m ∷ old) (x ∷ new) p v rest (suc k)
    shifted k same f = record {
      place = omega (arith, f.place);
      within = omega (arith, f.within);
      differs = f.differs;
      is_new = f.is_new;
      before = λ i. sym same i ∷ f.before i;
      left = (λ i. changes (p + 1) (drop_next k m old i) (drop_next k x new i)) ∙ f.left;
    }

    here : (n ≡ p) × (x ≡ v) × (changes (n + 1) old new ≡ rest) → m ≢ x → IsFirstChange n (m ∷ old) (x ∷ new) p v rest 0
    here (e0, e1, e2) q = record {
      place = omega (arith, e0);
      within = omega arith;
      differs = λ z. q (z ∙ sym e1);
      is_new = e1;
      before = refl;
      left = ap (λ j. changes (j + 1) old new) (sym e0) ∙ e2;
    }

    by : (changes (n + 1) old new ≡ (p, v) ∷ rest → (k : ℕ) × IsFirstChange (n + 1) old new p v rest k) → (b : Bool) → (m == x) ≡ b → (k : ℕ) × IsFirstChange n (m ∷ old) (x ∷ new) p v rest k
    by more true q = let f = more (sym (none_here n m x (changes (n + 1) old new) q) ∙ e) in (suc f.0, shifted f.0 (same_by_test m x q) f.1)
    by more false q = (0, here (first_change_is (n, x) (p, v) (changes (n + 1) old new) rest (sym (change_here n m x (changes (n + 1) old new) q) ∙ e)) (other_by_test m x q))

-- lists that differ at a place for the first time
pub order_at : (old new : List ℕ) (k : ℕ) → k < length old → length new ≡ length old → take k new ≡ take k old → (number_order (get_or old k 0) (get_or new k 0) ≡ Equal → ⊥)
    → numbers_order old new ≡ number_order (get_or old k 0) (get_or new k 0)
order_at [] new k h l e bar = absurd (omega (arith, h))
order_at (m ∷ old) [] k h l e bar = absurd (omega (arith, l))
order_at (m ∷ old) (x ∷ new) zero h l e bar = other_first number_order m x old new bar
order_at (m ∷ old) (x ∷ new) (suc k) h l e bar =
    let same : x ≡ m = cc in
    let tail : take k new ≡ take k old = cc in
    equal_first number_order m x old new (sym same) (number_itself m) ∙ order_at old new k (omega (arith, h)) (omega (arith, l)) tail bar

one_behind : (n m x : ℕ) (old now : List ℕ) (v p : ℕ) → changes (n + 1) old (set now p v) ≡ changes (n + 1) old now ++ (n + 1 + p, v) ∷ []
    → change_at n m x ++ changes (n + 1) old (set now p v) ≡ (change_at n m x ++ changes (n + 1) old now) ++ (n + suc p, v) ∷ []
one_behind n m x old now v p e =
    let place : n + 1 + p ≡ n + suc p = omega arith in
    ap (λ cs. change_at n m x ++ cs) (e ∙ ap (λ j. changes (n + 1) old now ++ (j, v) ∷ []) place) ∙ sym (append_assoc (change_at n m x) (changes (n + 1) old now) ((n + suc p, v) ∷ []))

-- one change more
pub no_differing : (n : ℕ) (old : List ℕ) → changes n old old ≡ []
no_differing n [] = refl
no_differing n (m ∷ old) = none_here n m m (changes (n + 1) old old) (test_same m m refl) ∙ no_differing (n + 1) old

-- the lists are the same from a place on: a change there or behind is the last
pub one_more_change : (n : ℕ) (old now : List ℕ) (next p v : ℕ) → length now ≡ length old → drop next now ≡ drop next old → next ≤ p → p < length old → get_or now p 0 ≢ v
    → changes n old (set now p v) ≡ changes n old now ++ (n + p, v) ∷ []
one_more_change n [] now next p v l d k h q = absurd (omega (arith, h))
one_more_change n (m ∷ old) [] next p v l d k h q = absurd (omega (arith, l))
one_more_change n (m ∷ old) (x ∷ now) zero zero v l d k h q =
    let same : x ≡ m = cc in
    let tail : now ≡ old = cc in
    let cut : changes (n + 1) old now ≡ [] = ap (changes (n + 1) old) tail ∙ no_differing (n + 1) old in
    let place : n ≡ n + 0 = omega arith in
    change_here n m v (changes (n + 1) old now) (test_other m v (λ e. q (same ∙ e)))
    ∙ (λ i. (place i, v) ∷ cut i)
    ∙ ap (λ cs. cs ++ (n + 0, v) ∷ []) (sym cut)
    ∙ ap (λ cs. cs ++ (n + 0, v) ∷ []) (sym (none_here n m x (changes (n + 1) old now) (test_same m x (sym same))))
one_more_change n (m ∷ old) (x ∷ now) zero (suc p) v l d k h q =
    let tail : now ≡ old = cc in
    one_behind n m x old now v p (one_more_change (n + 1) old now 0 p v (omega (arith, l)) tail (omega arith) (omega (arith, h)) q)
one_more_change n (m ∷ old) (x ∷ now) (suc next) zero v l d k h q = absurd (omega (arith, k))
one_more_change n (m ∷ old) (x ∷ now) (suc next) (suc p) v l d k h q =
    one_behind n m x old now v p (one_more_change (n + 1) old now next p v (omega (arith, l)) d (omega (arith, k)) (omega (arith, h)) q)

pub numbers_itself : (ns : List ℕ) → numbers_order ns ns ≡ Equal
numbers_itself [] = refl
numbers_itself (n ∷ ns) = equal_first number_order n n ns ns refl (number_itself n) ∙ numbers_itself ns

nil_of : (cs : List (ℕ × ℕ)) → length cs ≤ 0 → cs ≡ []
nil_of [] h = refl
nil_of (c ∷ cs) h = absurd (omega (arith, h))

-- the order of a list and of what changes make of it
pub order_of_none : (old : List ℕ) (cs : List (ℕ × ℕ)) → length cs ≤ 0 → IsOrderOfChanges old cs Equal
order_of_none old cs h new long is = sym (ap (numbers_order old) (no_change 0 old new long (is ∙ nil_of cs h)) ∙ numbers_itself old)

some_of : (cs : List (ℕ × ℕ)) → 0 < length cs → cs ≡ get_or cs 0 (0, 0) ∷ drop 1 cs
some_of [] h = absurd (omega (arith, h))
some_of (c ∷ cs) h = refl

first_of : (old : List ℕ) (cs : List (ℕ × ℕ)) (new : List ℕ) → 0 < length cs → length new ≡ length old → changes 0 old new ≡ cs
    → (k : ℕ) × IsFirstChange 0 old new (get_or cs 0 (0, 0)).0 (get_or cs 0 (0, 0)).1 (drop 1 cs) k
first_of old cs new some long is = first_change 0 old new (get_or cs 0 (0, 0)).0 (get_or cs 0 (0, 0)).1 (drop 1 cs) long (is ∙ some_of cs some)

pub order_past : (old : List ℕ) (cs : List (ℕ × ℕ)) (o : Ordering) → 0 < length cs → length old ≤ (get_or cs 0 (0, 0)).0 → IsOrderOfChanges old cs o
order_past old cs o some past new long is = let f = first_of old cs new some long is in absurd (by f.0 f.1)
  where
    by : (k : ℕ) → IsFirstChange 0 old new (get_or cs 0 (0, 0)).0 (get_or cs 0 (0, 0)).1 (drop 1 cs) k → ⊥
    by k f = absurd (omega (arith, past, f.place, f.within))

order_by : (old new : List ℕ) (o : Ordering) (p v k : ℕ) (rest : List (ℕ × ℕ)) → length new ≡ length old → o ≡ number_order (get_or old p 0) v → (o ≡ Equal → get_or old p 0 ≡ v) → IsFirstChange 0 old new p v rest k → o ≡ numbers_order old new
order_by old new o p v k rest long is apart f =
    let place : p ≡ k = omega (arith, f.place) in
    let here : number_order (get_or old p 0) v ≡ number_order (get_or old k 0) (get_or new k 0) = λ i. number_order (get_or old (place i) 0) (sym f.is_new i) in
    let bar : number_order (get_or old k 0) (get_or new k 0) ≡ Equal → ⊥ = λ (e : number_order (get_or old k 0) (get_or new k 0) ≡ Equal). f.differs (sym (ap (λ j. get_or old j 0) place) ∙ apart (is ∙ here ∙ e)) in
    is ∙ here ∙ sym (order_at old new k f.within long f.before bar)

pub order_of_first : (old : List ℕ) (cs : List (ℕ × ℕ)) (o : Ordering) → 0 < length cs → o ≡ number_order (get_or old (get_or cs 0 (0, 0)).0 0) (get_or cs 0 (0, 0)).1
    → (o ≡ Equal → get_or old (get_or cs 0 (0, 0)).0 0 ≡ (get_or cs 0 (0, 0)).1) → IsOrderOfChanges old cs o
order_of_first old cs o some is apart new long made =
    let f = first_of old cs new some long made in
    order_by old new o (get_or cs 0 (0, 0)).0 (get_or cs 0 (0, 0)).1 f.0 (drop 1 cs) long is apart f.1

-- of the number that a change puts
abbrev Puts : (ℕ → Type 0) → ℕ × ℕ → Type 0
Puts P c = P c.1

-- what holds of the numbers before and of those that changes put holds of those behind
pub changes_keep : (P : ℕ → Type 0) (n : ℕ) (old new : List ℕ) → length new ≡ length old → All P old → All (λ c. P c.1) (changes n old new) → All P new
changes_keep P n [] [] l a b = λ k d h. absurd (omega arith)
changes_keep P n [] (x ∷ new) l a b = absurd (omega (arith, l))
changes_keep P n (m ∷ old) [] l a b = absurd (omega (arith, l))
changes_keep P n (m ∷ old) (x ∷ new) l a b = by (changes_keep P (n + 1) old new (omega (arith, l)) (All-tail P m old a)) (m == x) refl
  where
    both : P x → All P new → All P (x ∷ new)
    both p q = All-append P (x ∷ []) new (λ k d h. grind (arith, p)) q

    by : (All (Puts P) (changes (n + 1) old new) → All P new) → (c : Bool) → (m == x) ≡ c → All P (x ∷ new)
    by more true e = both (subst P (same_by_test m x e) (All-head P m old a)) (more (subst (All (Puts P)) (none_here n m x (changes (n + 1) old new) e) b))
    by more false e =
        let here : All (Puts P) ((n, x) ∷ changes (n + 1) old new) = subst (All (Puts P)) (change_here n m x (changes (n + 1) old new) e) b in
        both (All-head (Puts P) (n, x) (changes (n + 1) old new) here) (more (All-tail (Puts P) (n, x) (changes (n + 1) old new) here))

-- and of those behind, it holds of those that changes put
pub changes_put : (P : ℕ → Type 0) (n : ℕ) (old new : List ℕ) → All P new → All (λ c. P c.1) (changes n old new)
changes_put P n [] new a = λ k d h. absurd (omega arith)
changes_put P n (m ∷ old) [] a = λ k d h. absurd (omega arith)
changes_put P n (m ∷ old) (x ∷ new) a = All-append (Puts P) (change_at n m x) (changes (n + 1) old new) (by (m == x)) (changes_put P (n + 1) old new (All-tail P x new a))
  where
    by : (c : Bool) → All (Puts P) (cond c [] ((n, x) ∷ []))
    by true = λ k d h. absurd (omega arith)
    by false = λ k d h. let p : P x = All-head P x new a in grind (arith, p)

-- outputs, pair by pair
pub within_get : {X : Type 0} (xs : List X) (i : ℕ) (x : X) → slice_get xs i ≡ Some x → i < length xs
within_get [] i x e = absurd (apart e)
  where
    apart : None ≡ Some x → ⊥
    apart q = cc
within_get (y ∷ ys) zero x e = omega arith
within_get (y ∷ ys) (suc i) x e = omega (arith, within_get ys i x e)

pair_itself : (p : ℕ × ℕ) → pair_order p p ≡ Equal
pair_itself p = bytes_itself (pair p)

head_pair : (p q : ℕ × ℕ) → p ∷ [] ≡ q ∷ [] → p ≡ q
head_pair p q e = cc

pub pair_of_order : (p q : ℕ × ℕ) (o : Ordering) → AreNumbers p → AreNumbers q → o ≡ pair_order p q → o ≡ Equal → p ≡ q
pair_of_order p q o a b is e =
    let same : pair p ≡ pair q = exact_bytes (pair p) (pair q) (sym is ∙ e) in
    head_pair p q (one_pairs (p ∷ []) (q ∷ []) [] [] (all_one AreNumbers p a) (all_one AreNumbers q b) (ap (λ l. (l ++ []) ++ 10 ∷ []) same)).0

number_at : (ps : List (ℕ × ℕ)) (i : ℕ) (p : ℕ × ℕ) → slice_get ps i ≡ Some p → All AreNumbers ps → AreNumbers p
number_at ps i p e a = subst AreNumbers (got ps i p (0, 0) e) (a i (0, 0) (within_get ps i p e))

pub pairs_differ : {E : Type 0} (r : Result Ordering E) (one other : List (ℕ × ℕ)) (i : ℕ) (p q : ℕ × ℕ) → slice_get one i ≡ Some p → slice_get other i ≡ Some q → (p ≡ q → ⊥) → All AreNumbers one → All AreNumbers other
    → IfOk r (λ o. o ≡ pair_order p q) → pairs_order one other ≡ pairs_order (drop i one) (drop i other) → IfOk r (λ o. o ≡ pairs_order one other)
pairs_differ (Ok o) one other i p q e d bar a b is so_far =
    let here : pair_order (get_or one i (0, 0)) (get_or other i (0, 0)) ≡ pair_order p q = λ j. pair_order (got one i p (0, 0) e j) (got other i q (0, 0) d j) in
    is ∙ sym (so_far ∙ other_at pair_order one other i (0, 0) (within_get one i p e) (within_get other i q d) (λ z. bar (pair_of_order p q o (number_at one i p e a) (number_at other i q d b) is (is ∙ sym here ∙ z))) ∙ here)
pairs_differ (Err x) one other i p q e d bar a b is so_far = tt

pub pairs_alike : (one other : List (ℕ × ℕ)) (i : ℕ) (p q : ℕ × ℕ) → slice_get one i ≡ Some p → slice_get other i ≡ Some q → p ≡ q → pairs_order one other ≡ pairs_order (drop i one) (drop i other)
    → pairs_order one other ≡ pairs_order (drop (i + 1) one) (drop (i + 1) other)
pairs_alike one other i p q e d same so_far =
    so_far ∙ equal_at pair_order one other i (0, 0) (within_get one i p e) (within_get other i q d) (got one i p (0, 0) e ∙ same ∙ sym (got other i q (0, 0) d)) (pair_itself (get_or one i (0, 0)))

pub pairs_end : (one other : List (ℕ × ℕ)) (i : ℕ) (o : Ordering) → min (length one) (length other) ≤ i → i ≤ min (length one) (length other) → o ≡ nat_cmp (length one) (length other)
    → pairs_order one other ≡ pairs_order (drop i one) (drop i other) → o ≡ pairs_order one other
pairs_end one other i o h k is so_far = is ∙ sym (so_far ∙ at_end pair_order i one other h k)

pub number_of_order : (m n : ℕ) (o : Ordering) → m < 2 ^ 64 → n < 2 ^ 64 → o ≡ number_order m n → o ≡ Equal → m ≡ n
number_of_order m n o h k is e = decimal_injective m n h k (exact_bytes (decimal m) (decimal n) (sym is ∙ e))
