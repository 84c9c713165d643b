-- Lines that are sorted with their places.
use Rattle.std.proofs.Common.{◌≡◌, ◌<◌, ◌+◌, ℕ, zero, suc, List, [], ◌∷◌, Bool, true, false, refl, sym, ap, ◌∙◌, subst, map, length, get_or, All, Some, slice_get, nat_eq, arith}
use Rattle.std.specs.List.{Contains, AllByRecursion, IsDistinct}
use Rattle.std.specs.List.Sorted.{IsPermutation, IsStrictlySortedBy, IsSorted}
use Rattle.std.specs.Cmp.{IsTotalOrder}
use Rattle.std.specs.Cmp.Lexicographic.{slice_cmp}
use Rattle.std.specs.Global.{Vec}
use Rattle.std.specs.Ordering.{nat_cmp, ordering_then, ordering_reverse, is_lt}
use Rattle.std.specs.declared.cmp.Ordering.{Ordering}
use Rattle.std.specs.declared.cmp.Ordering.TheVariants.{Less, Equal, Greater}
use Rattle.std.proofs.lemmas.Bool.{eqb-false}
use Rattle.std.proofs.lemmas.Cmp.{nat_list_cmp_total, nat_cmp_total, then_total, on_total}
use Rattle.std.proofs.lemmas.List.{length-map, get_or-map}
use Rattle.std.proofs.lemmas.List.Elements.{All-map, All-get_or, All-from_get_or, All-weaker}
use Rattle.std.proofs.lemmas.List.Sorted.{length_permutation, All-permutation, Contains-permutation, sorted_far, ranks_by}
use Rattle.std.proofs.lemmas.Map.Keys.{IsDistinct-IsPermutation, apart_from_distinct}
use Rattle.std.proofs.lemmas.Map.Lookups.{exact_bytes}
use Rattle.std.proofs.lemmas.Option.{slice_get-get_or, get_or_from_slice_get}
use Rattle.tc_rows.specs.Counts.{AreDifferent}
use Rattle.tc_close.specs.Orders.{lines_at, IsOrder, line_of, ArePlaced}

abbrev pub Placed : Type 0
Placed = Vec ℕ × ℕ

abbrev pub place_of : Placed → ℕ
place_of l = l.1

abbrev placed_cmp : Placed → Placed → Ordering
placed_cmp a b = ordering_then (slice_cmp nat_cmp (line_of a) (line_of b)) (nat_cmp a.1 b.1)

abbrev same_place : Placed → Placed → Bool
same_place a b = nat_eq a.1 b.1

-- a list in which each is below all that come later
module _ {K : Type 0} (c : K → K → Ordering) where
  all_below : (x : K) (xs : List K) (d : K) → ((j : ℕ) → j < length xs → c x (get_or xs j d) ≡ Less) → AllByRecursion (λ y. c x y ≡ Less) xs
  all_below x [] d h = tt
  all_below x (y ∷ ys) d h = (h zero (omega arith), all_below x ys d (λ j l. h (suc j) (omega (arith, l))))

  pub strictly : (xs : List K) (d : K) → ((i j : ℕ) → i < j → j < length xs → c (get_or xs i d) (get_or xs j d) ≡ Less) → IsStrictlySortedBy c xs
  unfolding IsStrictlySortedBy
  strictly [] d h = tt
  strictly (x ∷ xs) d h = (all_below x xs d (λ j l. h zero (suc j) (omega arith) (omega (arith, l))), strictly xs d (λ i j l m. h (suc i) (suc j) (omega (arith, l)) (omega (arith, m))))

unlike_numbers : (m n : ℕ) → m < n → nat_eq m n ≡ false
unlike_numbers m n l = grind arith

flip_numbers : (m n : ℕ) → nat_eq m n ≡ nat_eq n m
flip_numbers m n = grind arith

like_numbers : (m n : ℕ) → nat_eq m n ≡ false → n ≡ m → ⊥
like_numbers m n unlike e = eqb-false m n unlike (sym e)

-- places that are counted on are different
none_same : (x : Placed) (n : ℕ) (xs : List Placed) → x.1 < n → ((i : ℕ) (l : Placed) → slice_get xs i ≡ Some l → l.1 ≡ n + i) → AllByRecursion (λ y. same_place x y ≡ false) xs
none_same x n [] l h = tt
none_same x n (y ∷ ys) l h = (let e = h zero y refl in unlike_numbers x.1 y.1 (omega (arith, l, e)), none_same x (suc n) ys (omega (arith, l)) (λ i z at. let e = h (suc i) z at in omega (arith, e)))

places_differ : (n : ℕ) (xs : List Placed) → ((i : ℕ) (l : Placed) → slice_get xs i ≡ Some l → l.1 ≡ n + i) → IsDistinct same_place xs
unfolding IsDistinct
places_differ n [] h = tt
places_differ n (x ∷ xs) h = (none_same x (suc n) xs (let e = h zero x refl in omega (arith, e)) (λ i z at. let e = h (suc i) z at in omega (arith, e)), places_differ (suc n) xs (λ i z at. let e = h (suc i) z at in omega (arith, e)))

flips : (x y : Placed) → same_place x y ≡ same_place y x
flips x y = flip_numbers x.1 y.1

-- a line stands at its place
abbrev StandsIn : List Placed → Placed → Type 0
StandsIn old l = (l.1 < length old) × (get_or (map line_of old) l.1 [] ≡ line_of l)

all_stand : (old : List Placed) → ArePlaced old → All (StandsIn old) old
all_stand [] placed = grind arith
all_stand (x ∷ xs) placed = All-from_get_or (StandsIn (x ∷ xs)) (x ∷ xs) x (λ i l.
    let e : (get_or (x ∷ xs) i x).1 ≡ i = placed.1 i (get_or (x ∷ xs) i x) (slice_get-get_or (x ∷ xs) i x l) in
    (subst (λ k. k < length (x ∷ xs)) (sym e) l, ap (λ k. get_or (map line_of (x ∷ xs)) k []) e ∙ get_or-map line_of (x ∷ xs) i x [] l))

placed_total : IsTotalOrder placed_cmp
placed_total = then_total (on_total line_of nat_list_cmp_total) (on_total place_of nat_cmp_total)

some_at : (xs : List Placed) (i : ℕ) → i < length xs → (l : Placed) × (slice_get xs i ≡ Some l)
some_at [] i l = absurd (omega (arith, l))
some_at (x ∷ xs) zero l = (x, refl)
some_at (x ∷ xs) (suc i) l = some_at xs i (omega (arith, l))

module _ (old new : List Placed) (placed : ArePlaced old) (perm : IsPermutation old new) (sorted : IsSorted placed_cmp new) where
  stand : All (StandsIn old) new
  stand = All-permutation (StandsIn old) old new perm (all_stand old placed)

  apart : IsDistinct same_place new
  apart = IsDistinct-IsPermutation same_place flips old new perm (places_differ zero old (λ i l at. let e = placed.1 i l at in omega (arith, e)))

  line_there : (k : ℕ) (d : Placed) → k < length new → get_or (lines_at (map line_of old) (map place_of new)) k [] ≡ line_of (get_or new k d)
  line_there k d l =
      let low : k < length (map place_of new) = subst (λ n. k < n) (sym (length-map new place_of)) l in
      let there : StandsIn old (get_or new k d) = All-get_or (StandsIn old) new k d l stand in
      get_or-map (λ p. get_or (map line_of old) p []) (map place_of new) k 0 [] low ∙ (ap (λ p. get_or (map line_of old) p []) (get_or-map place_of new k d 0 l) ∙ there.1)

  below : AreDifferent (map line_of old) → (i j : ℕ) (d : Placed) → i < j → j < length new → slice_cmp nat_cmp (line_of (get_or new i d)) (line_of (get_or new j d)) ≡ Less
  below different i j d l m = by (slice_cmp nat_cmp (line_of b) (line_of a)) refl
    where
      a : Placed
      a = get_or new i d

      b : Placed
      b = get_or new j d

      stands_a : StandsIn old a
      stands_a = All-get_or (StandsIn old) new i d (omega (arith, l, m)) stand

      stands_b : StandsIn old b
      stands_b = All-get_or (StandsIn old) new j d m stand

      at : (c : Placed) → StandsIn old c → slice_get (map line_of old) c.1 ≡ Some (line_of c)
      at c there = slice_get-get_or (map line_of old) c.1 [] (subst (λ n. c.1 < n) (sym (length-map old line_of)) there.0) ∙ ap Some there.1

      unlike : line_of b ≡ line_of a → ⊥
      unlike e =
          let same : b.1 ≡ a.1 = different b.1 a.1 (line_of a) (at b stands_b ∙ ap Some e) (at a stands_a) in
          let no = apart_from_distinct same_place new i j d apart l m in
          like_numbers a.1 b.1 no same

      falls : is_lt (placed_cmp b a) ≡ false
      falls = sorted_far (λ x y. is_lt (placed_cmp x y)) (ranks_by placed_total (λ (x : Placed). x)) new sorted i j d (omega (arith, l)) m

      by : (o : Ordering) → slice_cmp nat_cmp (line_of b) (line_of a) ≡ o → slice_cmp nat_cmp (line_of a) (line_of b) ≡ Less
      by Less e = let t : is_lt (placed_cmp b a) ≡ true = ap (λ r. is_lt (ordering_then r (nat_cmp b.1 a.1))) e in let u = sym t ∙ falls in absurd (cc)
      by Equal e = absurd (unlike (exact_bytes (line_of b) (line_of a) e))
      by Greater e = nat_list_cmp_total.antisymm (line_of a) (line_of b) ∙ ap ordering_reverse e

  -- sorted lines, in order
  pub sorted_order : IsOrder (map line_of old) (map place_of new)
  sorted_order = record {
    count = length-map new place_of ∙ (length_permutation old new perm ∙ sym (length-map old line_of));
    within = All-map (λ p. p < length (map line_of old)) place_of new (All-weaker (StandsIn old) (λ e. place_of e < length (map line_of old)) (λ e s. subst (λ n. e.1 < n) (sym (length-map old line_of)) s.0) new stand);
    each = λ p l.
        let low : p < length old = subst (λ n. p < n) (length-map old line_of) l in
        let (e, at) = some_at old p low in
        let (k, inside, is) = Contains-permutation old new e perm (p, low, get_or_from_slice_get old p e e at) in
        let held : Contains (map place_of new) e.1 = (k, subst (λ n. k < n) (sym (length-map new place_of)) inside, get_or-map place_of new k e e.1 inside ∙ ap place_of is) in
        subst (Contains (map place_of new)) (placed.1 p e at) held;
    ascend = λ different. strictly (slice_cmp nat_cmp) (lines_at (map line_of old) (map place_of new)) [] (λ i j l m.
        let n : j < length new = subst (λ n. j < n) (length-map (map place_of new) _ ∙ length-map new place_of) m in
        let (d, at) = some_at new j n in
        subst (λ a. slice_cmp nat_cmp a (get_or (lines_at (map line_of old) (map place_of new)) j []) ≡ Less) (sym (line_there i d (omega (arith, l, n))))
        (subst (λ b. slice_cmp nat_cmp (line_of (get_or new i d)) b ≡ Less) (sym (line_there j d n)) (below different i j d l n)));
  }
