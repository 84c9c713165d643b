-- Sets of pairs as lists, one pair and one set after another.
use Rattle.std.proofs.Common.{◌≡◌, ◌<◌, ◌≤◌, inl, inr, ◌+◌, ◌↔◌, ◌++◌, ◌∷◌, [], ℕ, suc, List, length, get_or, map, filter, flat_map, take, Bool, true, false, Some, slice_get, if◌then◌else◌, sym, ap, ◌∙◌, refl, arith, eq-eqb, eqb-true}
use Rattle.std.specs.List.{Contains}
use Rattle.std.proofs.lemmas.List.{append-nil, append_assoc, length-map, get_or-map, get_or-take, map-append, length-take-le}
use Rattle.std.proofs.lemmas.List.Elements.{filter-append}
use Rattle.std.proofs.lemmas.Grind.{flat_map-append}
use Rattle.std.proofs.lemmas.Bool.{cases_lt}
use Rattle.std.proofs.lemmas.Option.{get_or_from_slice_get}
use Rattle.std.proofs.Math.Seq.{take-suc}
use Rattle.tc_model.specs.Numbered.{numbers_below}
use Rattle.tc_mat.specs.Matrix.{Matrix, HasPair, Gains}
use Rattle.tc_mat.specs.Held.{Held, IsHeld}
use Rattle.tc_rows.specs.PairSets.{IsPairs, listed}
use Rattle.tc_rows.proofs.PairLaws.{same_back, same_on}
use Rattle.tc_rows.proofs.Ascending.{one_pair_set}
use Rattle.tc_beh.specs.Putting.{has}
use Rattle.tc_beh.specs.Places.{pairs_of, is_pair, no_matrix}
use Rattle.tc_beh.specs.Outs.{sets_of}
use Rattle.tc_beh.specs.Listing.{row_pairs, AreDistinct, HasPairs}
use Rattle.tc_beh.proofs.Holding.{low_got}
use Rattle.tc_beh.proofs.Pairs.{listed_pairs}
use Rattle.tc_beh.proofs.RoomSets.{are_pairs}

-- the pairs of a matrix from the first numbers
abbrev pub rows_pairs : Matrix → ℕ → List (ℕ × ℕ)
rows_pairs m n = filter (is_pair m) (flat_map (λ i. map (λ j. (i, j)) (numbers_below m.size)) (numbers_below n))

pub all_rows : (m : Matrix) → rows_pairs m m.size ≡ pairs_of m
unfolding pairs_of
all_rows m = refl

pub one_row : (m : Matrix) (n : ℕ) → rows_pairs m (suc n) ≡ rows_pairs m n ++ row_pairs m n m.size
one_row m n =
    let row : ℕ → List (ℕ × ℕ) = λ i. map (λ j. (i, j)) (numbers_below m.size) in
    ap (filter (is_pair m)) (flat_map-append row (numbers_below n) (n ∷ []) ∙ ap (λ l. flat_map row (numbers_below n) ++ l) (append-nil (row n)))
    ∙ filter-append (is_pair m) (flat_map row (numbers_below n)) (row n)

-- one pair more of a row
one_pair : (m : Matrix) (from n : ℕ) → row_pairs m from (suc n) ≡ row_pairs m from n ++ filter (is_pair m) ((from, n) ∷ [])
one_pair m from n =
    let pair : ℕ → ℕ × ℕ = λ j. (from, j) in
    ap (filter (is_pair m)) (map-append pair (numbers_below n) (n ∷ [])) ∙ filter-append (is_pair m) (map pair (numbers_below n)) ((from, n) ∷ [])

pub with_pair : (m : Matrix) (from n : ℕ) → HasPair m from n → row_pairs m from (suc n) ≡ row_pairs m from n ++ (from, n) ∷ []
unfolding HasPair
with_pair m from n h = one_pair m from n ∙ ap (λ l. row_pairs m from n ++ l) (by (is_pair m (from, n)) (eq-eqb _ _ h.2))
  where
    by : (b : Bool) → b ≡ true → (let l : List (ℕ × ℕ) = if b then ((from, n) ∷ []) else [] in l ≡ (from, n) ∷ [])
    by true e = refl
    by false e = absurd (cc)

pub without_pair : (m : Matrix) (from n : ℕ) → from < m.size → n < m.size → (HasPair m from n → ⊥) → row_pairs m from (suc n) ≡ row_pairs m from n
unfolding HasPair
without_pair m from n low here isnt = one_pair m from n ∙ (ap (λ l. row_pairs m from n ++ l) (by (is_pair m (from, n)) refl) ∙ append-nil (row_pairs m from n))
  where
    by : (b : Bool) → is_pair m (from, n) ≡ b → (let l : List (ℕ × ℕ) = if b then ((from, n) ∷ []) else [] in l ≡ [])
    by true e = absurd (isnt (low, here, eqb-true _ _ e))
    by false e = refl

-- the pairs of the first places
abbrev IsAmong : List (ℕ × ℕ) → ℕ → ℕ × ℕ → Type 0
IsAmong pairs n p = (k : ℕ) × (k < n) × (k < length pairs) × (get_or pairs k p ≡ p)

abbrev pub HasFirst : Matrix → List (ℕ × ℕ) → ℕ → Type 0
HasFirst m pairs n = (i j : ℕ) → HasPair m i j ↔ IsAmong pairs n (i, j)

pub has_one_more : (old new : Matrix) (pairs : List (ℕ × ℕ)) (n : ℕ) (p : ℕ × ℕ) → slice_get pairs n ≡ Some p → Gains old p.0 p.1 new → HasFirst old pairs n → HasFirst new pairs (n + 1)
has_one_more old new pairs n p at gains is i j = (forth, back)
  where
    here : (d : ℕ × ℕ) → get_or pairs n d ≡ p
    here d = get_or_from_slice_get pairs n p d at

    low : n < length pairs
    low = low_got pairs n p at

    forth : HasPair new i j → IsAmong pairs (n + 1) (i, j)
    forth h = elim ((gains i j).0 h) [
      | inl a ↦ let (k, l, m, e) = (is i j).0 a in (k, omega (arith, l), m, e)
      | inr e ↦ (n, omega arith, low, here (i, j) ∙ same p i j e.0 e.1)
    ]
      where
        same : (p : ℕ × ℕ) (i j : ℕ) → i ≡ p.0 → j ≡ p.1 → p ≡ (i, j)
        same p i j e f = λ t. (sym e t, sym f t)

    back : IsAmong pairs (n + 1) (i, j) → HasPair new i j
    back (k, l, m, e) = elim (cases_lt k n) [
      | inl b ↦ (gains i j).1 (inl ((is i j).1 (k, b, m, e)))
      | inr b ↦
          let q : p ≡ (i, j) = sym (here (i, j)) ∙ (ap (λ w. get_or pairs w (i, j)) (let s : n ≡ k = omega (arith, l, b) in s) ∙ e) in
          (gains i j).1 (inr (ap (λ (w : ℕ × ℕ). w.0) (sym q), ap (λ (w : ℕ × ℕ). w.1) (sym q)))
    ]

-- a matrix of the pairs of a list is listed as these
pub listed_as : (m : Matrix) (size : ℕ) (pairs : List (ℕ × ℕ)) → m.size ≡ size → IsPairs size pairs → HasPairs m pairs → pairs_of m ≡ pairs
listed_as m size pairs e are is =
    one_pair_set (pairs_of m) pairs (are_pairs m size e).ascend are.ascend
    (same_on (listed (pairs_of m)) (has m) (listed pairs) (same_back (has m) (listed (pairs_of m)) (listed_pairs m)) is)

take_more : (lists : List (List (ℕ × ℕ))) (n : ℕ) → n < length lists → take n lists ++ get_or lists n [] ∷ [] ≡ take (n + 1) lists
take_more lists n low = let e : suc n ≡ n + 1 = omega arith in sym (take-suc lists n [] low) ∙ ap (λ k. take k lists) e

pub one_list_more : (held : List Matrix) (n : ℕ) (m : Matrix) (p : List (ℕ × ℕ)) (old new : List (List (ℕ × ℕ))) → slice_get held n ≡ Some m → p ≡ pairs_of m → old ≡ take n (sets_of held) → new ≡ old ++ p ∷ []
    → new ≡ take (n + 1) (sets_of held)
one_list_more held n m p old new at same is e =
    let low : n < length held = low_got held n m at in
    let count : length (sets_of held) ≡ length held = length-map held pairs_of in
    let here : get_or (sets_of held) n [] ≡ p = get_or-map pairs_of held n no_matrix [] low ∙ (ap pairs_of (get_or_from_slice_get held n m no_matrix at) ∙ sym same) in
    e ∙ (ap (λ l. l ++ p ∷ []) is ∙ (ap (λ q. take n (sets_of held) ++ q ∷ []) (sym here) ∙ take_more (sets_of held) n (omega (arith, low, count))))

-- a list that is got is among the lists
pub got_among : (pairs : List (ℕ × ℕ)) (k : ℕ) (p : ℕ × ℕ) → slice_get pairs k ≡ Some p → Contains pairs p
got_among pairs k p at = (k, low_got pairs k p at, get_or_from_slice_get pairs k p p at)

-- one pair more of a row, put at the end of others
pub row_with : (m : Matrix) (from n : ℕ) (start old new : List (ℕ × ℕ)) → HasPair m from n → old ≡ start ++ row_pairs m from n → new ≡ old ++ (from, n) ∷ [] → new ≡ start ++ row_pairs m from (n + 1)
row_with m from n start old new h is e =
    let next : suc n ≡ n + 1 = omega arith in
    e
    ∙ (ap (λ l. l ++ (from, n) ∷ []) is
    ∙ (append_assoc start (row_pairs m from n) ((from, n) ∷ []) ∙ (ap (λ l. start ++ l) (sym (with_pair m from n h)) ∙ ap (λ k. start ++ row_pairs m from k) next)))

pub row_without : (m : Matrix) (from n : ℕ) (start old : List (ℕ × ℕ)) → from < m.size → n < m.size → (HasPair m from n → ⊥) → old ≡ start ++ row_pairs m from n → old ≡ start ++ row_pairs m from (n + 1)
row_without m from n start old low here isnt is =
    let next : suc n ≡ n + 1 = omega arith in
    is ∙ (ap (λ l. start ++ l) (sym (without_pair m from n low here isnt)) ∙ ap (λ k. start ++ row_pairs m from k) next)

-- the first lists are held
abbrev pub HoldsFirst : Held → List (List (ℕ × ℕ)) → ℕ → Type 0
HoldsFirst h lists n = sets_of h.matrices ≡ take n lists

pub held_count : (h : Held) (lists : List (List (ℕ × ℕ))) (n : ℕ) → n ≤ length lists → HoldsFirst h lists n → length h.matrices ≡ n
held_count h lists n low is = sym (length-map h.matrices pairs_of) ∙ (ap length is ∙ length-take-le n lists low)

pub not_yet_held : (h : Held) (lists : List (List (ℕ × ℕ))) (n : ℕ) (m : Matrix) → n < length lists → AreDistinct lists → HoldsFirst h lists n → pairs_of m ≡ get_or lists n [] → IsHeld h m → ⊥
not_yet_held h lists n m low distinct is same (k, at) =
    let count : length h.matrices ≡ n = held_count h lists n (omega (arith, low)) is in
    let here : k < length h.matrices = low_got h.matrices k m at in
    let got : get_or h.matrices k no_matrix ≡ m = get_or_from_slice_get h.matrices k m no_matrix at in
    let first : get_or (take n lists) k [] ≡ pairs_of m = ap (λ l. get_or l k []) (sym is) ∙ (get_or-map pairs_of h.matrices k no_matrix [] here ∙ ap pairs_of got) in
    let one : get_or lists k [] ≡ get_or lists n [] = sym (get_or-take n lists k [] (omega (arith, here, count))) ∙ (first ∙ same) in
    let e : k ≡ n = distinct k n (omega (arith, here, count, low)) low one in
    absurd (omega (arith, here, count, e))

pub holds_one_more : (old new : Held) (lists : List (List (ℕ × ℕ))) (n : ℕ) (m : Matrix) → n < length lists → HoldsFirst old lists n → pairs_of m ≡ get_or lists n []
    → new.matrices ≡ old.matrices ++ m ∷ [] → HoldsFirst new lists (n + 1)
holds_one_more old new lists n m low is same e =
    ap (map pairs_of) e
    ∙ (map-append pairs_of old.matrices (m ∷ [])
    ∙ (ap (λ l. l ++ pairs_of m ∷ []) is ∙ (ap (λ p. take n lists ++ p ∷ []) same ∙ take_more lists n low)))
