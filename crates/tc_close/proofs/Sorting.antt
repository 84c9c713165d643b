-- Lines that are all different can be put in order, and numbers have ranks.
use Rattle.std.proofs.Common.{◌≡◌, ◌<◌, ◌⊎◌, inl, inr, ℕ, zero, suc, List, [], ◌∷◌, refl, sym, ap, ◌∙◌, subst, map, length, get_or, All, Some, slice_get, arith}
use Rattle.std.specs.List.{Contains, AllByRecursion}
use Rattle.std.specs.List.Sorted.{IsStrictlySortedBy}
use Rattle.std.specs.Cmp.Lexicographic.{slice_cmp}
use Rattle.std.specs.Ordering.{nat_cmp, ordering_reverse}
use Rattle.std.specs.declared.cmp.Ordering.{Ordering}
use Rattle.std.specs.declared.cmp.Ordering.TheVariants.{Less, Equal, Greater}
use Rattle.std.proofs.lemmas.Bool.{cases_lt}
use Rattle.std.proofs.lemmas.Cmp.{nat_list_cmp_total}
use Rattle.std.proofs.lemmas.List.Elements.{All-get_or}
use Rattle.std.proofs.lemmas.Map.Lookups.{exact_bytes}
use Rattle.std.proofs.lemmas.Option.{slice_get-get_or, get_or_from_slice_get}
use Rattle.tc_rows.specs.Counts.{AreDifferent}
use Rattle.tc_close.specs.Orders.{IsOrder, AreRanks}
use Rattle.tc_close.proofs.Choosing.{Chosen, choose_each}
use Rattle.tc_close.proofs.LeastHolds.{all_of}

abbrev by_bytes : List ℕ → List ℕ → Ordering
by_bytes = slice_cmp nat_cmp

-- each of these lines comes behind this one
abbrev Behind : List ℕ → List (List ℕ) → Type 0
Behind a = AllByRecursion (λ b. by_bytes a b ≡ Less)

further : (a b : List ℕ) (lines : List (List ℕ)) → by_bytes a b ≡ Less → Behind b lines → Behind a lines
further a b [] e all = tt
further a b (c ∷ lines) e (first, rest) = (nat_list_cmp_total.trans a b c e first, further a b lines e rest)

first_of : (q : ℕ) (qs : List ℕ) (r : ℕ) → Contains (q ∷ qs) r → (r ≡ q) ⊎ Contains qs r
first_of q qs r (zero, low, at) = inl (sym at)
first_of q qs r (suc k, low, at) = inr (k, omega (arith, low), at)

there : (q : ℕ) (qs : List ℕ) → Contains (q ∷ qs) q
there q qs = (zero, omega arith, refl)

later : (q : ℕ) (qs : List ℕ) (r : ℕ) → Contains qs r → Contains (q ∷ qs) r
later q qs r (k, low, at) = (suc k, omega (arith, low), at)

module _ (line : ℕ → List ℕ) where
  -- one number more among numbers in the order of their lines
  record Put (p : ℕ) (qs : List ℕ) : Type 0 where
    pub all : List ℕ
    pub count : length all ≡ suc (length qs)
    pub new : Contains all p
    pub old : (r : ℕ) → Contains qs r → Contains all r
    pub no_other : (r : ℕ) → Contains all r → (r ≡ p) ⊎ Contains qs r
    pub behind : (a : List ℕ) → by_bytes a (line p) ≡ Less → Behind a (map line qs) → Behind a (map line all)
    pub sorted : IsStrictlySortedBy by_bytes (map line all)

  put : (p : ℕ) (qs : List ℕ) → ((q : ℕ) → Contains qs q → line p ≡ line q → ⊥) → IsStrictlySortedBy by_bytes (map line qs) → Put p qs
  unfolding IsStrictlySortedBy
  put p [] apart sorted = record {
    all = p ∷ [];
    count = refl;
    new = there p [];
    old = λ r c. later p [] r c;
    no_other = λ r c. first_of p [] r c;
    behind = λ a e rest. (e, tt);
    sorted = (tt, tt);
  }
  put p (q ∷ qs) apart (first, rest) = by (put p qs (λ r c. apart r (later q qs r c)) rest) (by_bytes (line p) (line q)) refl
    where
      by : Put p qs → (o : Ordering) → by_bytes (line p) (line q) ≡ o → Put p (q ∷ qs)
      by more Less e = record {
        all = p ∷ q ∷ qs;
        count = refl;
        new = there p (q ∷ qs);
        old = λ r c. later p (q ∷ qs) r c;
        no_other = λ r c. first_of p (q ∷ qs) r c;
        behind = λ a l all. (l, all);
        sorted = ((e, further (line p) (line q) (map line qs) e first), (first, rest));
      }
      by more Equal e = absurd (apart q (there q qs) (exact_bytes (line p) (line q) e))
      by more Greater e =
          let below : by_bytes (line q) (line p) ≡ Less = nat_list_cmp_total.antisymm (line q) (line p) ∙ ap ordering_reverse e in
          record {
            all = q ∷ more.all;
            count = ap suc more.count;
            new = later q more.all p more.new;
            old = λ r c. elim (first_of q qs r c) [ inl same ↦ subst (Contains (q ∷ more.all)) (sym same) (there q more.all) | inr d ↦ later q more.all r (more.old r d) ];
            no_other = λ r c. elim (first_of q more.all r c) [ inl same ↦ inr (subst (Contains (q ∷ qs)) (sym same) (there q qs)) | inr d ↦ elim (more.no_other r d) [ inl new ↦ inl new | inr o ↦ inr (later q qs r o) ] ];
            behind = λ a l (front, back). (front, more.behind a l back);
            sorted = (more.behind (line q) below first, more.sorted);
          }

  -- the numbers below some number, in the order of their lines
  record Sorted (n : ℕ) : Type 0 where
    pub all : List ℕ
    pub count : length all ≡ n
    pub within : (p : ℕ) → Contains all p → p < n
    pub each : (p : ℕ) → p < n → Contains all p
    pub sorted : IsStrictlySortedBy by_bytes (map line all)

  sort : (n : ℕ) → ((p q : ℕ) → p < n → q < n → line p ≡ line q → p ≡ q) → Sorted n
  unfolding IsStrictlySortedBy
  sort zero apart = record { all = []; count = refl; within = λ p (k, low, at). absurd (omega (arith, low)); each = λ p l. absurd (omega (arith, l)); sorted = tt }
  sort (suc n) apart =
      let old : Sorted n = sort n (λ p q l m e. apart p q (omega (arith, l)) (omega (arith, m)) e) in
      let new : Put n old.all =
      put n old.all (λ q c e. let low : q < n = old.within q c in let same : n ≡ q = apart n q (omega arith) (omega (arith, low)) e in absurd (omega (arith, low, same))) old.sorted in
      record {
        all = new.all;
        count = new.count ∙ ap suc old.count;
        within = λ p c. elim (new.no_other p c) [ inl same ↦ omega (arith, same) | inr d ↦ let low = old.within p d in omega (arith, low) ];
        each = each old new;
        sorted = new.sorted;
      }
    where
      each : (old : Sorted n) (new : Put n old.all) (p : ℕ) → p < suc n → Contains new.all p
      each old new p l = elim (cases_lt p n) [
        | inl low ↦ new.old p (old.each p low)
        | inr high ↦ subst (Contains new.all) (let same : n ≡ p = omega (arith, l, high) in same) new.new
      ]

-- different lines have an order
pub order_of : (lines : List (List ℕ)) → AreDifferent lines → (places : List ℕ) × IsOrder lines places
order_of lines different =
    let line : ℕ → List ℕ = λ p. get_or lines p [] in
    let at : (p : ℕ) → p < length lines → slice_get lines p ≡ Some (line p) = λ p l. slice_get-get_or lines p [] l in
    let sorted : Sorted line (length lines) = sort line (length lines) (λ p q l m e. different p q (line q) (at p l ∙ ap Some e) (at q m)) in (
      sorted.all,
      record {
        count = sorted.count;
        within = all_of (λ p. p < length lines) sorted.all sorted.within;
        each = sorted.each;
        ascend = λ d. sorted.sorted;
      },
    )

-- and the places of numbers in an order have ranks
pub ranks_of : (lines : List (List ℕ)) (places : List ℕ) → IsOrder lines places → (ranks : List ℕ) × AreRanks places ranks
ranks_of lines places order =
    let ranks : Chosen (λ p i. (i < length places) × (get_or places i 0 ≡ p)) (length lines) =
    choose_each (λ p i. (i < length places) × (get_or places i 0 ≡ p)) (length lines) (λ p l.
    let (i, low, at) = order.each p l in
    (i, (low, get_or_from_slice_get places i p 0 (slice_get-get_or places i p low ∙ ap Some at)))) in (
      ranks.all,
      λ p (k, low, at).
          let inside : p < length lines = subst (λ q. q < length lines) at (All-get_or (λ q. q < length lines) places k p low order.within) in
          let (i, is, found) = ranks.each p inside in
          subst (λ r. (r < length places) × (get_or places r 0 ≡ p)) (sym (get_or_from_slice_get ranks.all p i 0 is)) found,
    )
