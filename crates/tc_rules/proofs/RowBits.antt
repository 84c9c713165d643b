-- The bits of rows.
use Rattle.std.proofs.Common.{◌≡◌, ◌⊎◌, inl, inr, ℕ, zero, suc, ◌+◌, ◌-◌, ◌*◌, ◌/◌, ◌%◌, ◌^◌, ◌<◌, ◌≤◌, List, [], ◌∷◌, ◌&&◌, ◌||◌, refl, ap, sym, ◌∙◌, length, get_or, nat_eq, bit_and, bit_or, min, max, arith}
use Rattle.std.specs.Int.{bit_at}
use Rattle.std.specs.Int.Bits.{and_zero_l}
use Rattle.std.proofs.lemmas.Bool.{cases_lt}
use Rattle.std.proofs.lemmas.List.{get_or_past}
use Rattle.std.proofs.lemmas.Nat.Bits.{bit_at_and, bit_at_or, bit_at_lowest, bit_at-suc, bit_at-lt, bit_at-zero, bit_at_above, bit_at_cat_low, bit_at_cat_high}
use Rattle.tc_sets.specs.Numbers.{bit_of}
use Rattle.tc_sets.proofs.Bits.{met_is_set}
use Rattle.tc_rules.specs.Words.{first_word, after_word, both_words, further_words, shifted, bit, IsPadded}

first_is : (ws : List ℕ) → first_word ws ≡ get_or ws 0 0
first_is [] = refl
first_is (w ∷ ws) = refl

later_is : (ws : List ℕ) (k : ℕ) → get_or (after_word ws) k 0 ≡ get_or ws (suc k) 0
later_is [] zero = refl
later_is [] (suc k) = refl
later_is (w ∷ ws) k = refl

-- a number of a row's bit
abbrev pub digit : List ℕ → ℕ → ℕ
digit ws i = bit_at (get_or ws (i / 64) 0) (i % 64)

-- digits are 0 or 1
by_digits : (P : ℕ → ℕ → Type 0) → P 0 0 → P 0 1 → P 1 0 → P 1 1 → (x y : ℕ) → x < 2 → y < 2 → P x y
by_digits P a b c d zero zero h k = a
by_digits P a b c d zero (suc zero) h k = b
by_digits P a b c d (suc zero) zero h k = c
by_digits P a b c d (suc zero) (suc zero) h k = d
by_digits P a b c d (suc (suc x)) y h k = absurd (omega (arith, h))
by_digits P a b c d zero (suc (suc y)) h k = absurd (omega (arith, k))
by_digits P a b c d (suc zero) (suc (suc y)) h k = absurd (omega (arith, k))

and_digits : (x y : ℕ) → x < 2 → y < 2 → nat_eq (min x y) 1 ≡ (nat_eq x 1 && nat_eq y 1)
and_digits = by_digits (λ x y. nat_eq (min x y) 1 ≡ (nat_eq x 1 && nat_eq y 1)) refl refl refl refl

or_digits : (x y : ℕ) → x < 2 → y < 2 → nat_eq (max x y) 1 ≡ (nat_eq x 1 || nat_eq y 1)
or_digits = by_digits (λ x y. nat_eq (max x y) 1 ≡ (nat_eq x 1 || nat_eq y 1)) refl refl refl refl

-- ---- what both have
pub get_both : (ws us : List ℕ) (k : ℕ) → get_or (both_words ws us) k 0 ≡ bit_and (get_or ws k 0) (get_or us k 0)
get_both [] us zero = sym (and_zero_l (get_or us 0 0))
get_both [] us (suc k) = sym (and_zero_l (get_or us (suc k) 0))
get_both (w ∷ ws) us zero = ap (bit_and w) (first_is us)
get_both (w ∷ ws) us (suc k) = get_both ws (after_word us) k ∙ ap (bit_and (get_or ws k 0)) (later_is us k)

pub length_both : (ws us : List ℕ) → length (both_words ws us) ≡ length ws
length_both [] us = refl
length_both (w ∷ ws) us = ap suc (length_both ws (after_word us))

digit_both : (ws us : List ℕ) (i : ℕ) → digit (both_words ws us) i ≡ min (digit ws i) (digit us i)
digit_both ws us i = ap (λ w. bit_at w (i % 64)) (get_both ws us (i / 64)) ∙ bit_at_and (get_or ws (i / 64) 0) (get_or us (i / 64) 0) (i % 64)

pub bit_both : (ws us : List ℕ) (i : ℕ) → bit (both_words ws us) i ≡ (bit ws i && bit us i)
bit_both ws us i = ap (λ d. nat_eq d 1) (digit_both ws us i) ∙ and_digits (digit ws i) (digit us i) (bit_at-lt _ (i % 64)) (bit_at-lt _ (i % 64))

pub both_padded : (n : ℕ) (ws us : List ℕ) → IsPadded n ws → IsPadded n (both_words ws us)
both_padded n ws us h = met_is_set n ws us (both_words ws us) (length_both ws us) h (get_both ws us)

-- ---- one place further on
abbrev carry_into : ℕ → List ℕ → ℕ → ℕ
carry_into c ms zero = c
carry_into c ms (suc k) = get_or ms k 0 / 2 ^ 63

carried_on : (m : ℕ) (ms : List ℕ) (k : ℕ) → carry_into (first_word (m ∷ ms) / 2 ^ 63) ms k ≡ get_or (m ∷ ms) k 0 / 2 ^ 63
carried_on m ms zero = refl
carried_on m ms (suc k) = refl

get_further : (c : ℕ) (ks ms : List ℕ) (k : ℕ) → k < length ks → get_or (further_words c ks ms) k 0 ≡ bit_or (get_or ks k 0) (bit_or (shifted (get_or ms k 0)) (carry_into c ms k))
get_further c [] ms k h = absurd (omega (arith, h))
get_further c (w ∷ ks) ms zero h = ap (λ m. bit_or w (bit_or (shifted m) c)) (first_is ms)
get_further c (w ∷ ks) [] (suc k) h = get_further 0 ks [] k (omega (arith, h)) ∙ by k
  where
    by : (k : ℕ) → bit_or (get_or ks k 0) (bit_or (shifted (get_or [] k 0)) (carry_into 0 [] k)) ≡ bit_or (get_or ks k 0) (bit_or (shifted (get_or [] (suc k) 0)) (get_or [] k 0 / 2 ^ 63))
    by zero = refl
    by (suc k) = refl
get_further c (w ∷ ks) (m ∷ ms) (suc k) h =
    get_further (m / 2 ^ 63) ks ms k (omega (arith, h)) ∙ ap (λ d. bit_or (get_or ks k 0) (bit_or (shifted (get_or ms k 0)) d)) (carried_on m ms k)

pub length_further : (c : ℕ) (ks ms : List ℕ) → length (further_words c ks ms) ≡ length ks
length_further c [] ms = refl
length_further c (k ∷ ks) ms = ap suc (length_further (first_word ms / 2 ^ 63) ks (after_word ms))

shifted_first : (w : ℕ) → bit_at (shifted w) 0 ≡ 0
shifted_first w = bit_at_lowest (shifted w) ∙ omega arith

shifted_bit : (w q : ℕ) → suc q < 64 → bit_at (shifted w) (suc q) ≡ bit_at w q
shifted_bit w q h =
    let whole : w * 2 / 2 ^ 64 * 2 ^ 64 + shifted w ≡ w * 2 = omega arith in
    let half : w * 2 / 2 ≡ w = omega arith in
    sym (bit_at_cat_low (w * 2 / 2 ^ 64) 64 (shifted w) (suc q) h) ∙ (ap (λ v. bit_at v (suc q)) whole ∙ (bit_at-suc (w * 2) q ∙ ap (λ v. bit_at v q) half))

shifted_above : (w p : ℕ) → 64 ≤ p → bit_at (shifted w) p ≡ 0
shifted_above w p h = let low : shifted w < 2 ^ 64 = omega arith in bit_at_above (shifted w) 64 p low h

carried_bit : (m j : ℕ) → bit_at (m / 2 ^ 63) j ≡ bit_at m (63 + j)
carried_bit m j =
    let whole : m / 2 ^ 63 * 2 ^ 63 + m % 2 ^ 63 ≡ m = omega arith in
    let low : m % 2 ^ 63 < 2 ^ 63 = omega arith in
    let far : 63 ≤ 63 + j = omega arith in
    let back : 63 + j - 63 ≡ j = omega arith in
    sym (ap (λ v. bit_at v (63 + j)) (sym whole) ∙ (bit_at_cat_high (m / 2 ^ 63) 63 (m % 2 ^ 63) (63 + j) low far ∙ ap (bit_at (m / 2 ^ 63)) back))

or_bits : (k s c p : ℕ) → bit_at (bit_or k (bit_or s c)) p ≡ max (bit_at k p) (max (bit_at s p) (bit_at c p))
or_bits k s c p = bit_at_or k (bit_or s c) p ∙ ap (max (bit_at k p)) (bit_at_or s c p)

module _ (n : ℕ) (ks ms : List ℕ) (kept : IsPadded n ks) (moved : IsPadded n ms) (last : (j : ℕ) → n ≤ suc j → digit ms j ≡ 0) where
  abbrev next : List ℕ
  next = further_words 0 ks ms

  carried_none : (w q : ℕ) → bit_at (carry_into 0 ms w) (suc q) ≡ 0
  carried_none zero q = bit_at-zero (suc q)
  carried_none (suc v) q = carried_bit (get_or ms v 0) (suc q) ∙ moved.padding v (63 + suc q) (inl (omega arith))

  -- within a word
  inner_bit : (w q : ℕ) → w < length ks → suc q < 64 → bit_of next w (suc q) ≡ max (bit_of ks w (suc q)) (bit_of ms w q)
  inner_bit w q l h =
      ap (λ v. bit_at v (suc q)) (get_further 0 ks ms w l)
      ∙ (or_bits (get_or ks w 0) (shifted (get_or ms w 0)) (carry_into 0 ms w) (suc q)
      ∙ omega (arith, shifted_bit (get_or ms w 0) q h, carried_none w q))

  -- from the word before
  outer_bit : (v : ℕ) → suc v < length ks → bit_of next (suc v) 0 ≡ max (bit_of ks (suc v) 0) (bit_of ms v 63)
  outer_bit v l =
      ap (λ w. bit_at w 0) (get_further 0 ks ms (suc v) l)
      ∙ (or_bits (get_or ks (suc v) 0) (shifted (get_or ms (suc v) 0)) (get_or ms v 0 / 2 ^ 63) 0
      ∙ omega (arith, shifted_first (get_or ms (suc v) 0), carried_bit (get_or ms v 0) 0))

  pub digit_first : digit next 0 ≡ digit ks 0
  digit_first = by (cases_lt 0 (length ks))
    where
      by : (0 < length ks) ⊎ (length ks ≤ 0) → bit_of next 0 0 ≡ bit_of ks 0 0
      by (inl l) =
          ap (λ w. bit_at w 0) (get_further 0 ks ms 0 l)
          ∙ (or_bits (get_or ks 0 0) (shifted (get_or ms 0 0)) 0 0 ∙ omega (arith, shifted_first (get_or ms 0 0), bit_at-zero 0))
      by (inr h) =
          ap (λ w. bit_at w 0) (get_or_past next 0 0 (omega (arith, h, length_further 0 ks ms)) ∙ sym (get_or_past ks 0 0 h))

  -- no row goes on behind the words that there are
  past : (i : ℕ) → 64 * length ks ≤ i → digit next i ≡ 0
  past i h = ap (λ w. bit_at w (i % 64)) (get_or_past next (i / 64) 0 (omega (arith, h, length_further 0 ks ms))) ∙ bit_at-zero (i % 64)

  none_past : (i : ℕ) → n ≤ i → digit ks i ≡ 0
  none_past i h = let at : 64 * (i / 64) + i % 64 ≡ i = omega arith in kept.padding (i / 64) (i % 64) (inr (omega (arith, at, h)))

  long : n ≤ 64 * length ks
  long = omega (arith, kept.whole)

  pub digit_further : (j : ℕ) → digit next (suc j) ≡ max (digit ks (suc j)) (digit ms j)
  digit_further j = by (cases_lt (suc j) (64 * length ks)) (cases_lt 0 (suc j % 64))
    where
      by : (suc j < 64 * length ks) ⊎ (64 * length ks ≤ suc j) → (0 < suc j % 64) ⊎ (suc j % 64 ≤ 0) → digit next (suc j) ≡ max (digit ks (suc j)) (digit ms j)
      by (inr h) r = omega (arith, past (suc j) h, none_past (suc j) (omega (arith, h, long)), last j (omega (arith, h, long)))
      by (inl l) (inl r) =
          let q = j % 64 in
          let w = j / 64 in
          let same_word : suc j / 64 ≡ w = omega (arith, r) in
          let same_place : suc j % 64 ≡ suc q = omega (arith, r) in
          let inside : w < length ks = omega (arith, l, same_word) in
          let low : suc q < 64 = omega (arith, r, same_place) in
          let at : (ws : List ℕ) → digit ws (suc j) ≡ bit_of ws w (suc q) = λ ws. ap (λ k. bit_at (get_or ws k 0) (suc j % 64)) same_word ∙ ap (bit_at (get_or ws w 0)) same_place in
          at next ∙ (inner_bit w q inside low ∙ ap (λ d. max d (bit_of ms w q)) (sym (at ks)))
      by (inl l) (inr r) =
          let v = j / 64 in
          let next_word : suc j / 64 ≡ suc v = omega (arith, r) in
          let first_place : suc j % 64 ≡ 0 = omega (arith, r) in
          let last_place : j % 64 ≡ 63 = omega (arith, r) in
          let inside : suc v < length ks = omega (arith, l, next_word) in
          let at : (ws : List ℕ) → digit ws (suc j) ≡ bit_of ws (suc v) 0 = λ ws. ap (λ k. bit_at (get_or ws k 0) (suc j % 64)) next_word ∙ ap (bit_at (get_or ws (suc v) 0)) first_place in
          at next ∙ (outer_bit v inside ∙ (ap (λ d. max d (bit_of ms v 63)) (sym (at ks)) ∙ ap (λ p. max (digit ks (suc j)) (bit_of ms v p)) (sym last_place)))

  pub bit_first : bit next 0 ≡ bit ks 0
  bit_first = ap (λ d. nat_eq d 1) digit_first

  pub bit_further : (j : ℕ) → bit next (suc j) ≡ (bit ks (suc j) || bit ms j)
  bit_further j =
      ap (λ d. nat_eq d 1) (digit_further j) ∙ or_digits (digit ks (suc j)) (digit ms j) (bit_at-lt _ (suc j % 64)) (bit_at-lt _ (j % 64))

  -- a word's places end at 64
  far_bit : (w p : ℕ) → 64 ≤ p → bit_of next w p ≡ 0
  far_bit w p h = by (cases_lt w (length ks))
    where
      carry : (w : ℕ) → bit_at (carry_into 0 ms w) p ≡ 0
      carry zero = bit_at-zero p
      carry (suc v) = carried_bit (get_or ms v 0) p ∙ moved.padding v (63 + p) (inl (omega (arith, h)))

      by : (w < length ks) ⊎ (length ks ≤ w) → bit_of next w p ≡ 0
      by (inr l) = ap (λ v. bit_at v p) (get_or_past next w 0 (omega (arith, l, length_further 0 ks ms))) ∙ bit_at-zero p
      by (inl l) =
          ap (λ v. bit_at v p) (get_further 0 ks ms w l)
          ∙ (or_bits (get_or ks w 0) (shifted (get_or ms w 0)) (carry_into 0 ms w) p
          ∙ omega (arith, kept.padding w p (inl h), shifted_above (get_or ms w 0) p h, carry w))

  none_further : (i : ℕ) → n ≤ i → digit next i ≡ 0
  none_further zero h = digit_first ∙ none_past 0 h
  none_further (suc j) h = digit_further j ∙ omega (arith, none_past (suc j) h, last j h)

  pub further_padded : IsPadded n next
  further_padded = record { whole = length_further 0 ks ms ∙ kept.whole; padding = λ w p out. by w p out (cases_lt p 64) }
    where
      by : (w p : ℕ) → (64 ≤ p) ⊎ (n ≤ 64 * w + p) → (p < 64) ⊎ (64 ≤ p) → bit_of next w p ≡ 0
      by w p out (inr h) = far_bit w p h
      by w p (inl g) (inl l) = far_bit w p g
      by w p (inr g) (inl l) =
          let word : (64 * w + p) / 64 ≡ w = omega (arith, l) in
          let place : (64 * w + p) % 64 ≡ p = omega (arith, l) in
          sym (ap (λ k. bit_at (get_or next k 0) ((64 * w + p) % 64)) word ∙ ap (bit_at (get_or next w 0)) place) ∙ none_further (64 * w + p) g
