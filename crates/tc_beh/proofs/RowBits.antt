-- The pairs of a matrix from one number, bit by bit that is set.
use Rattle.std.proofs.Common.{◌≡◌, ◌≢◌, ◌<◌, ◌≤◌, ◌⊎◌, inl, inr, ◌+◌, ◌-◌, ◌*◌, ◌/◌, ◌%◌, ◌^◌, ◌++◌, ◌∷◌, [], ℕ, zero, suc, List, slice_index, sym, subst, ap, ◌∙◌, refl, arith}
use Rattle.std.specs.Int.{bit_at, trailing_zeros, w64}
use Rattle.std.proofs.lemmas.Bool.{cases_lt, cases_eq}
use Rattle.std.proofs.lemmas.Nat.{div-mul-add, mod-mul-add, shr-shr}
use Rattle.std.proofs.lemmas.Nat.Bits.{bit_at-zero, bit_at-trailing_zeros, bit_at_above}
use Rattle.std.proofs.Math.Nat.{div-le_self}
use Rattle.tc_mat.specs.Matrix.{Matrix, HasPair, IsMatrix, bit_of, words_a_row}
use Rattle.tc_mat.proofs.CallerLemmas.{HasPair-below}
use Rattle.tc_beh.specs.Listing.{row_pairs, AreZero, IsFirstBit, LeadsNowhere, IsNext}
use Rattle.tc_beh.proofs.InOrder.{row_with, without_pair}

-- a bit of a word that was moved down
moved : (n k i : ℕ) → bit_at (n / 2 ^ k) i ≡ bit_at n (k + i)
moved n k i = ap (λ x. x % 2) (shr-shr n k i)

moved_back : (n k i : ℕ) → k ≤ i → bit_at n i ≡ bit_at (n / 2 ^ k) (i - k)
moved_back n k i low = let e : k + (i - k) ≡ i = omega (arith, low) in ap (bit_at n) (sym e) ∙ sym (moved n k (i - k))

pub no_bit : (word start : ℕ) → word / 2 ^ start ≡ 0 → AreZero word start 64
no_bit word start none p low within = moved_back word start p low ∙ (ap (λ w. bit_at w (p - start)) none ∙ bit_at-zero (p - start))

pub one_bit : (word start place : ℕ) → word < 2 ^ 64 → (word / 2 ^ start ≡ 0 → ⊥) → place ≡ trailing_zeros w64 (word / 2 ^ start) → IsFirstBit word start (start + place)
one_bit word start place fits some is = by (bit_at-trailing_zeros w64 (word / 2 ^ start) (let u : word / 2 ^ start ≢ 0 = some in omega arith) (omega (arith, fits, div-le_self word (2 ^ start))))
  where
    by : (trailing_zeros w64 (word / 2 ^ start) < 64) × (bit_at (word / 2 ^ start) (trailing_zeros w64 (word / 2 ^ start)) ≡ 1) × ((i : ℕ) → i < trailing_zeros w64 (word / 2 ^ start) → bit_at (word / 2 ^ start) i ≡ 0)
        → IsFirstBit word start (start + place)
    by (low, one, before) = (omega arith, within (cases_lt (start + place) 64), here, λ p from to. moved_back word start p from ∙ before (p - start) (omega (arith, from, to, is)))
      where
        here : bit_at word (start + place) ≡ 1
        here = sym (moved word start place) ∙ (ap (bit_at (word / 2 ^ start)) is ∙ one)

        within : (start + place < 64) ⊎ (64 ≤ start + place) → start + place < 64
        within (inl less) = less
        within (inr past) = absurd (omega (arith, here, bit_at_above word 64 (start + place) fits past))

-- where one begins to look in a word, if one begins with this number
abbrev pub IsStart : ℕ → ℕ → ℕ → Type 0
IsStart start word place = ((word ≡ start / 64) × (place ≡ start % 64)) ⊎ ((start / 64 < word) × (place ≡ 0))

-- a bit of a row stands for a pair
module _ (m : Matrix) (from : ℕ) (low : from < m.size) where
  at : (word place : ℕ) → place < 64 → bit_of m from ((64 * word + place) / 64) ((64 * word + place) % 64) ≡ bit_of m from word place
  at word place fits =
      let e : 64 * word + place ≡ word * 64 + place = omega arith in
      ap (λ k. bit_of m from (k / 64) (k % 64)) e ∙ (ap (λ k. bit_of m from k ((word * 64 + place) % 64)) (div-mul-add word 64 place fits) ∙ ap (bit_of m from word) (mod-mul-add word 64 place fits))

  pub pair_bit : (word place : ℕ) → place < 64 → 64 * word + place < m.size → bit_at (slice_index m.words (from * words_a_row m.size + word)) place ≡ 1 → HasPair m from (64 * word + place)
  unfolding HasPair
  pair_bit word place fits within one = (low, within, at word place fits ∙ one)

  pub no_pair : (word place : ℕ) → place < 64 → bit_at (slice_index m.words (from * words_a_row m.size + word)) place ≡ 0 → HasPair m from (64 * word + place) → ⊥
  unfolding HasPair
  no_pair word place fits none h = absurd (omega (arith, none, sym (at word place fits) ∙ h.2))

  -- in a word of the row, of which the places before the start don't count
  module _ (width : ℕ) (words : List ℕ) (start word place : ℕ) (wide : width ≡ words_a_row m.size) (same : words ≡ m.words) (is : IsStart start word place) (before : LeadsNowhere m from start (64 * word)) where
    zero_at : (p : ℕ) → bit_at (slice_index words (from * width + word)) p ≡ bit_at (slice_index m.words (from * words_a_row m.size + word)) p
    zero_at p = ap (λ ws. bit_at (slice_index ws (from * width + word)) p) same ∙ ap (λ w. bit_at (slice_index m.words (from * w + word)) p) wide

    pub nowhere_in : (end : ℕ) → end ≤ 64 → AreZero (slice_index words (from * width + word)) place end → LeadsNowhere m from start (64 * word + end)
    nowhere_in end most none j least low h = by (cases_lt j (64 * word))
      where
        after : 64 * word ≤ j → place ≤ j - 64 * word
        after past = elim is [ inl (a, b) ↦ omega (arith, a, b, least, past) | inr (a, b) ↦ omega (arith, b) ]

        by : (j < 64 * word) ⊎ (64 * word ≤ j) → ⊥
        by (inl less) = before j least less h
        by (inr past) =
            let e : 64 * word + (j - 64 * word) ≡ j = omega (arith, past) in
            no_pair word (j - 64 * word) (omega (arith, low, most, past)) (sym (zero_at (j - 64 * word)) ∙ none (j - 64 * word) (after past) (omega (arith, low, past))) (subst (HasPair m from) (sym e) h)

    pub next_in : (bit : ℕ) → IsMatrix m → word < words_a_row m.size → IsFirstBit (slice_index words (from * width + word)) place bit → IsNext m from start (64 * word + bit)
    next_in bit matrix within (least, fits, one, none) = (first, pair_bit word bit fits (below (cases_lt (64 * word + bit) m.size)) set, nowhere_in bit (omega (arith, fits)) none)
      where
        set : bit_at (slice_index m.words (from * words_a_row m.size + word)) bit ≡ 1
        set = sym (zero_at bit) ∙ one

        first : start ≤ 64 * word + bit
        first = elim is [ inl (a, b) ↦ omega (arith, a, b, least) | inr (a, b) ↦ omega (arith, a) ]

        below : (64 * word + bit < m.size) ⊎ (m.size ≤ 64 * word + bit) → 64 * word + bit < m.size
        below (inl less) = less
        below (inr past) = absurd (omega (arith, set, matrix.padding from word bit low within (inr past)))

  -- so many places behind one another without a pair
  gap : (start count : ℕ) → start + count ≤ m.size → LeadsNowhere m from start (start + count) → row_pairs m from (start + count) ≡ row_pairs m from start
  gap start zero within none = let e : start + zero ≡ start = omega arith in ap (row_pairs m from) e
  gap start (suc count) within none =
      let next : start + suc count ≡ suc (start + count) = omega arith in
      ap (row_pairs m from) next
      ∙ (without_pair m from (start + count) low (omega (arith, within)) (none (start + count) (omega arith) (omega arith))
      ∙ gap start count (omega (arith, within)) (λ j l h. none j l (omega (arith, h))))

  pub row_gap : (start end : ℕ) → start ≤ end → end ≤ m.size → LeadsNowhere m from start end → row_pairs m from end ≡ row_pairs m from start
  row_gap start end least most none =
      let e : start + (end - start) ≡ end = omega (arith, least) in
      ap (row_pairs m from) (sym e) ∙ gap start (end - start) (omega (arith, least, most)) (subst (LeadsNowhere m from start) (sym e) none)

  pub row_next : (start to : ℕ) (front old new : List (ℕ × ℕ)) → IsNext m from start to → old ≡ front ++ row_pairs m from start → new ≡ old ++ (from, to) ∷ [] → new ≡ front ++ row_pairs m from (to + 1)
  row_next start to front old new (least, pair, none) is e =
      let within = (HasPair-below m from to pair).1 in
      row_with m from to front old new pair (is ∙ ap (λ l. front ++ l) (sym (row_gap start to least (omega (arith, within)) none))) e
