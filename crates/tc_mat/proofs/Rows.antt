-- Rows of words to which other rows are added.
use Rattle.std.proofs.Common.{◌≡◌, ◌≢◌, ◌⊎◌, inl, inr, ℕ, ◌+◌, ◌*◌, ◌/◌, ◌%◌, ◌<◌, ◌≤◌, ◌^◌, List, refl, sym, ap, subst, ◌∙◌, length, get_or, set, arith, bit_or, bit_and, min, replicate}
use Rattle.std.specs.Prelude.{◌↔◌}
use Rattle.std.specs.Int.{bit_at, bit_not, trailing_zeros, w64}
use Rattle.std.proofs.lemmas.Bool.{cases_eq, cases_lt}
use Rattle.std.proofs.lemmas.List.{get_or-set_same, get_or-set_other, get_or-replicate, get_or_past, length-replicate}
use Rattle.std.proofs.lemmas.Nat.{mul-add-lt, same_from_place, and_le_l, div_below, div-add-mod', mod_below}
use Rattle.std.proofs.lemmas.Nat.Bits.{bit_at_or, bit_at_and, bit_at_clear_same, bit_at-lt, bit_at-zero, bit_at-pow_same, bit_at-pow_other, bit_at-trailing_zeros}
use Rattle.tc_mat.specs.Matrix.{words_a_row}
use Rattle.tc_mat.specs.Product.{IsSet, HasBits, GainsBits, Leads, Told, IsPadded, IsUnit}

-- ---- gains, one after another
module _ (n : ℕ) (G H K : ℕ → ℕ → ℕ → Type 0) (joins : (x w p : ℕ) → x < n → w < words_a_row n → (G x w p ⊎ H x w p) ↔ K x w p) where
  pub gains_more : (old mid new : List ℕ) → GainsBits n old mid G → GainsBits n mid new H → GainsBits n old new K
  gains_more old mid new g h x w p hx hw = (forth, back)
    where
      forth : IsSet n new x w p → IsSet n old x w p ⊎ K x w p
      forth b = by ((h x w p hx hw).0 b)
        where
          at : IsSet n old x w p ⊎ G x w p → IsSet n old x w p ⊎ K x w p
          at (inl o) = inl o
          at (inr q) = inr ((joins x w p hx hw).0 (inl q))

          by : IsSet n mid x w p ⊎ H x w p → IsSet n old x w p ⊎ K x w p
          by (inl m) = at ((g x w p hx hw).0 m)
          by (inr q) = inr ((joins x w p hx hw).0 (inr q))

      back : IsSet n old x w p ⊎ K x w p → IsSet n new x w p
      back (inl o) = (h x w p hx hw).1 (inl ((g x w p hx hw).1 (inl o)))
      back (inr k) = by ((joins x w p hx hw).1 k)
        where
          by : G x w p ⊎ H x w p → IsSet n new x w p
          by (inl q) = (h x w p hx hw).1 (inl ((g x w p hx hw).1 (inr q)))
          by (inr q) = (h x w p hx hw).1 (inr q)

  pub bits_more : (old new : List ℕ) → HasBits n old G → GainsBits n old new H → HasBits n new K
  bits_more old new g h x w p hx hw = (forth, back)
    where
      forth : IsSet n new x w p → K x w p
      forth b = by ((h x w p hx hw).0 b)
        where
          by : IsSet n old x w p ⊎ H x w p → K x w p
          by (inl o) = (joins x w p hx hw).0 (inl ((g x w p hx hw).0 o))
          by (inr q) = (joins x w p hx hw).0 (inr q)

      back : K x w p → IsSet n new x w p
      back k = by ((joins x w p hx hw).1 k)
        where
          by : G x w p ⊎ H x w p → IsSet n new x w p
          by (inl q) = (h x w p hx hw).1 (inl ((g x w p hx hw).1 q))
          by (inr q) = (h x w p hx hw).1 (inr q)

-- nothing is gained
pub gains_none : (n : ℕ) (old : List ℕ) (K : ℕ → ℕ → ℕ → Type 0) → ((x w p : ℕ) → x < n → w < words_a_row n → K x w p → ⊥) → GainsBits n old old K
gains_none n old K none x w p hx hw = (λ b. inl b, back)
  where
    back : IsSet n old x w p ⊎ K x w p → IsSet n old x w p
    back (inl o) = o
    back (inr k) = absurd (none x w p hx hw k)

-- the same bits, said otherwise
pub bits_as : (n : ℕ) (words : List ℕ) (G K : ℕ → ℕ → ℕ → Type 0) → ((x w p : ℕ) → x < n → w < words_a_row n → G x w p ↔ K x w p) → HasBits n words G → HasBits n words K
bits_as n words G K same g x w p hx hw =
    (λ b. (same x w p hx hw).0 ((g x w p hx hw).0 b), λ k. (g x w p hx hw).1 ((same x w p hx hw).1 k))

-- the same gains, said otherwise
pub gains_as : (n : ℕ) (old new : List ℕ) (G K : ℕ → ℕ → ℕ → Type 0) → ((x w p : ℕ) → x < n → w < words_a_row n → G x w p ↔ K x w p) → GainsBits n old new G → GainsBits n old new K
gains_as n old new G K same g x w p hx hw = (forth, back)
  where
    forth : IsSet n new x w p → IsSet n old x w p ⊎ K x w p
    forth b = by ((g x w p hx hw).0 b)
      where
        by : IsSet n old x w p ⊎ G x w p → IsSet n old x w p ⊎ K x w p
        by (inl o) = inl o
        by (inr q) = inr ((same x w p hx hw).0 q)

    back : IsSet n old x w p ⊎ K x w p → IsSet n new x w p
    back (inl o) = (g x w p hx hw).1 (inl o)
    back (inr k) = (g x w p hx hw).1 (inr ((same x w p hx hw).1 k))

-- ---- one row added to another, as far as a word
pub record IsAddedUpTo (n : ℕ) (b : List ℕ) (from row k : ℕ) (old new : List ℕ) : Type 0 where
  pub joined : (w : ℕ) → w < k → get_or new (row * words_a_row n + w) 0 ≡ bit_or (get_or old (row * words_a_row n + w) 0) (get_or b (from * words_a_row n + w) 0)
  pub kept : (x w : ℕ) → x < n → w < words_a_row n → (x ≢ row) ⊎ (k ≤ w) → get_or new (x * words_a_row n + w) 0 ≡ get_or old (x * words_a_row n + w) 0

module _ (n : ℕ) (b : List ℕ) (from row : ℕ) (old new : List ℕ) (fits : row < n) where
  pub added_none : IsAddedUpTo n b from row 0 old old
  added_none = record { joined = λ w h. absurd (omega arith); kept = λ x w hx hw o. refl }

  module _ (k : ℕ) (is : IsAddedUpTo n b from row k old new) (size : length new ≡ n * words_a_row n) (here : k < words_a_row n) where
    abbrev spot : ℕ
    spot = row * words_a_row n + k

    abbrev next : List ℕ
    next = set new spot (bit_or (get_or new spot 0) (get_or b (from * words_a_row n + k) 0))

    spot_in : spot < length new
    spot_in = omega (arith, mul-add-lt row (words_a_row n) k n fits here, size)

    pub added_more : IsAddedUpTo n b from row (k + 1) old next
    added_more = record { joined = λ w h. by w h (cases_eq w k); kept = λ x w hx hw o. stays x w hx hw o }
      where
        by : (w : ℕ) → w < k + 1 → (w ≡ k) ⊎ (w ≡ k → ⊥) → get_or next (row * words_a_row n + w) 0 ≡ bit_or (get_or old (row * words_a_row n + w) 0) (get_or b (from * words_a_row n + w) 0)
        by w h (inl e) =
            let R : ℕ → Type 0 = λ v. get_or next (row * words_a_row n + v) 0 ≡ bit_or (get_or old (row * words_a_row n + v) 0) (get_or b (from * words_a_row n + v) 0) in
            let at : R k = get_or-set_same new spot _ 0 spot_in ∙ ap (λ v. bit_or v (get_or b (from * words_a_row n + k) 0)) (is.kept row k fits here (inr (omega arith))) in
            subst R (sym e) at
        by w h (inr ne) =
            let apart : row * words_a_row n + w ≢ spot = (λ e. ne (omega (arith, e))) in
            get_or-set_other new spot (row * words_a_row n + w) _ 0 apart ∙ is.joined w (let u : w ≢ k = ne in omega arith)

        other : (x w : ℕ) → w < words_a_row n → (x ≢ row) ⊎ (k + 1 ≤ w) → x * words_a_row n + w ≢ spot
        other x w hw (inl ne) e = ne (same_from_place x w row k (words_a_row n) hw here e).0
        other x w hw (inr l) e = let s = (same_from_place x w row k (words_a_row n) hw here e).1 in absurd (omega arith)

        looser : (x w : ℕ) → (x ≢ row) ⊎ (k + 1 ≤ w) → (x ≢ row) ⊎ (k ≤ w)
        looser x w (inl ne) = inl ne
        looser x w (inr l) = inr (omega arith)

        stays : (x w : ℕ) → x < n → w < words_a_row n → (x ≢ row) ⊎ (k + 1 ≤ w) → get_or next (x * words_a_row n + w) 0 ≡ get_or old (x * words_a_row n + w) 0
        stays x w hx hw o = get_or-set_other new spot (x * words_a_row n + w) _ 0 (other x w hw o) ∙ is.kept x w hx hw (looser x w o)

  or_bit : (u v p : ℕ) → (bit_at (bit_or u v) p ≡ 1) ↔ ((bit_at u p ≡ 1) ⊎ (bit_at v p ≡ 1))
  or_bit u v p = (λ h. forth h (cases_eq (bit_at u p) 1), back)
    where
      forth : bit_at (bit_or u v) p ≡ 1 → (bit_at u p ≡ 1) ⊎ (bit_at u p ≡ 1 → ⊥) → (bit_at u p ≡ 1) ⊎ (bit_at v p ≡ 1)
      forth h (inl e) = inl e
      forth h (inr ne) = let apart : bit_at u p ≢ 1 = ne in inr (omega (arith, bit_at_or u v p, bit_at-lt u p, bit_at-lt v p))

      back : (bit_at u p ≡ 1) ⊎ (bit_at v p ≡ 1) → bit_at (bit_or u v) p ≡ 1
      back (inl e) = omega (arith, bit_at_or u v p, bit_at-lt u p, bit_at-lt v p)
      back (inr e) = omega (arith, bit_at_or u v p, bit_at-lt u p, bit_at-lt v p)

  pub added_whole : IsAddedUpTo n b from row (words_a_row n) old new → GainsBits n old new (λ x w p. (x ≡ row) × IsSet n b from w p)
  added_whole is x w p hx hw = by (cases_eq x row)
    where
      by : (x ≡ row) ⊎ (x ≡ row → ⊥) → IsSet n new x w p ↔ (IsSet n old x w p ⊎ ((x ≡ row) × IsSet n b from w p))
      by (inl e) = (forth, back)
        where
          same : get_or new (x * words_a_row n + w) 0 ≡ bit_or (get_or old (x * words_a_row n + w) 0) (get_or b (from * words_a_row n + w) 0)
          same = subst (λ v. get_or new (v * words_a_row n + w) 0 ≡ bit_or (get_or old (v * words_a_row n + w) 0) (get_or b (from * words_a_row n + w) 0)) (sym e) (is.joined w hw)

          sides : (bit_at (bit_or (get_or old (x * words_a_row n + w) 0) (get_or b (from * words_a_row n + w) 0)) p ≡ 1) ↔ (IsSet n old x w p ⊎ IsSet n b from w p)
          sides = or_bit (get_or old (x * words_a_row n + w) 0) (get_or b (from * words_a_row n + w) 0) p

          named : IsSet n old x w p ⊎ IsSet n b from w p → IsSet n old x w p ⊎ ((x ≡ row) × IsSet n b from w p)
          named (inl o) = inl o
          named (inr o) = inr (e, o)

          forth : IsSet n new x w p → IsSet n old x w p ⊎ ((x ≡ row) × IsSet n b from w p)
          forth h = named (sides.0 (sym (ap (λ v. bit_at v p) same) ∙ h))

          back : IsSet n old x w p ⊎ ((x ≡ row) × IsSet n b from w p) → IsSet n new x w p
          back (inl o) = ap (λ v. bit_at v p) same ∙ sides.1 (inl o)
          back (inr o) = ap (λ v. bit_at v p) same ∙ sides.1 (inr o.1)
      by (inr ne) = (λ h. inl (sym (ap (λ v. bit_at v p) same) ∙ h), back)
        where
          same : get_or new (x * words_a_row n + w) 0 ≡ get_or old (x * words_a_row n + w) 0
          same = is.kept x w hx hw (inl ne)

          back : IsSet n old x w p ⊎ ((x ≡ row) × IsSet n b from w p) → IsSet n new x w p
          back (inl o) = ap (λ v. bit_at v p) same ∙ o
          back (inr o) = absurd (ne o.0)

-- ---- the rows that one word tells, but for the bits of it that are left
module _ (n : ℕ) (b old : List ℕ) (row by told : ℕ) where
  -- what the bits lead to that are left no longer
  abbrev pub ToldBut : ℕ → ℕ → ℕ → ℕ → Type 0
  ToldBut rest x w p = (x ≡ row) × ((t : ℕ) × (bit_at told t ≡ 1) × (bit_at rest t ≡ 0) × IsSet n b (64 * by + t) w p)

  pub told_none : GainsBits n old old (ToldBut told)
  told_none = gains_none n old (ToldBut told) (λ x w p hx hw t. absurd (omega (arith, t.1.1, t.1.2)))

  -- one bit is told and taken out of those that are left
  pub told_more : (rest next place : ℕ) (mid new : List ℕ) → ((t : ℕ) → bit_at told t ≡ 1 → (t < 64) × (64 * by + t < n)) → GainsBits n old mid (ToldBut rest)
      → bit_at rest place ≡ 1 → bit_at told place ≡ 1 → bit_at next place ≡ 0 → ((t : ℕ) → t < 64 → t ≢ place → bit_at next t ≡ bit_at rest t)
      → GainsBits n mid new (λ x w p. (x ≡ row) × IsSet n b (64 * by + place) w p)
      → GainsBits n old new (ToldBut next)
  told_more rest next place mid new fits g at within off kept h =
      gains_more n (ToldBut rest) (λ x w p. (x ≡ row) × IsSet n b (64 * by + place) w p) (ToldBut next) (λ x w p hx hw. (forth x w p, back x w p)) old mid new g h
    where
      apart : (t : ℕ) → bit_at rest t ≡ 0 → t ≢ place
      apart t z e = absurd (omega (arith, z, at, ap (bit_at rest) e))

      forth : (x w p : ℕ) → ToldBut rest x w p ⊎ ((x ≡ row) × IsSet n b (64 * by + place) w p) → ToldBut next x w p
      forth x w p (inl t) = (t.0, (t.1.0, t.1.1, kept t.1.0 (fits t.1.0 t.1.1).0 (apart t.1.0 t.1.2) ∙ t.1.2, t.1.3))
      forth x w p (inr t) = (t.0, (place, within, off, t.1))

      pick : (x w p t : ℕ) → x ≡ row → bit_at told t ≡ 1 → bit_at next t ≡ 0 → IsSet n b (64 * by + t) w p → (t ≡ place) ⊎ (t ≡ place → ⊥)
          → ToldBut rest x w p ⊎ ((x ≡ row) × IsSet n b (64 * by + place) w p)
      pick x w p t e s z set (inl q) = inr (e, subst (λ v. IsSet n b (64 * by + v) w p) q set)
      pick x w p t e s z set (inr ne) = inl (e, (t, s, sym (kept t (fits t s).0 ne) ∙ z, set))

      back : (x w p : ℕ) → ToldBut next x w p → ToldBut rest x w p ⊎ ((x ≡ row) × IsSet n b (64 * by + place) w p)
      back x w p t = pick x w p t.1.0 t.0 t.1.1 t.1.2 t.1.3 (cases_eq t.1.0 place)

  -- once no bit is left, the word has told all
  pub told_all : (rest : ℕ) (new : List ℕ) → rest ≡ 0 → GainsBits n old new (ToldBut rest) → GainsBits n old new (λ x w p. (x ≡ row) × Told n b told by w p)
  told_all rest new none g =
      gains_as n old new (ToldBut rest) (λ x w p. (x ≡ row) × Told n b told by w p) (λ x w p hx hw. (forth x w p, back x w p)) g
    where
      forth : (x w p : ℕ) → ToldBut rest x w p → (x ≡ row) × Told n b told by w p
      forth x w p t = (t.0, (t.1.0, t.1.1, t.1.3))

      back : (x w p : ℕ) → (x ≡ row) × Told n b told by w p → ToldBut rest x w p
      back x w p t = (t.0, (t.1.0, t.1.1, ap (λ v. bit_at v t.1.0) none ∙ bit_at-zero t.1.0, t.1.2))

-- words that are all zero
zeros_are : (k : ℕ) (words : List ℕ) → words ≡ replicate k 0 → (w : ℕ) → get_or words w 0 ≡ 0
zeros_are k words e w = ap (λ ws. get_or ws w 0) e ∙ by (cases_lt w k)
  where
    by : (w < k) ⊎ (k ≤ w) → get_or {A = ℕ} (replicate k 0) w 0 ≡ 0
    by (inl l) = get_or-replicate k w 0 0 l
    by (inr l) = get_or_past (replicate k 0) w 0 (omega (arith, length-replicate {A = ℕ} k 0))

-- the lowest bit of a word that isn't zero
pub lowest : (rest place : ℕ) → (rest ≡ 0 → ⊥) → rest < 2 ^ 64 → place ≡ trailing_zeros w64 rest → (place < 64) × (bit_at rest place ≡ 1)
lowest rest place some fits is = by (bit_at-trailing_zeros w64 rest (let u : rest ≢ 0 = some in omega arith) fits)
  where
    by : (trailing_zeros w64 rest < 64) × (bit_at rest (trailing_zeros w64 rest) ≡ 1) × ((i : ℕ) → i < trailing_zeros w64 rest → bit_at rest i ≡ 0)
        → (place < 64) × (bit_at rest place ≡ 1)
    by h = (omega (arith, h.0, is), ap (bit_at rest) is ∙ h.1)

-- a word without one of its bits
abbrev pub without : ℕ → ℕ → ℕ
without rest place = bit_and rest (bit_not w64 (1 * 2 ^ place % 2 ^ 64))

-- the lesser of two bits
both_bits : (a b r : ℕ) → r ≡ min a b → r ≡ 1 → a < 2 → a ≡ 1
both_bits a b r is one low = omega arith

pub without_bits : (rest place t : ℕ) → bit_at (without rest place) t ≡ 1 → bit_at rest t ≡ 1
without_bits rest place t e = both_bits (bit_at rest t) (bit_at (bit_not w64 (1 * 2 ^ place % 2 ^ 64)) t) (bit_at (without rest place) t) (bit_at_and rest (bit_not w64 (1 * 2 ^ place % 2 ^ 64)) t) e (bit_at-lt rest t)

pub without_less : (rest place : ℕ) → place < 64 → bit_at rest place ≡ 1 → without rest place < rest
without_less rest place low at =
    let off : bit_at (without rest place) place ≡ 0 = bit_at_clear_same w64 rest place low in
    let ne : without rest place ≢ rest = (λ e. absurd (omega (arith, at, off, ap (λ v. bit_at v place) e))) in
    omega (arith, and_le_l rest (bit_not w64 (1 * 2 ^ place % 2 ^ 64)))

-- ---- word after word
-- there is a word in a row of words
pub some_width : (n at len : ℕ) → at < len → len ≡ n * words_a_row n → 0 < words_a_row n
some_width n at len low size = by (cases_eq n 0)
  where
    by : (n ≡ 0) ⊎ (n ≡ 0 → ⊥) → 0 < words_a_row n
    by (inl e) = absurd (omega (arith, low, size, ap (λ k. k * words_a_row n) e))
    by (inr ne) = let u : n ≢ 0 = ne in omega arith

-- the row of a word
pub row_low : (n at len : ℕ) → at < len → len ≡ n * words_a_row n → at / words_a_row n < n
row_low n at len low size = div_below at (words_a_row n) n (some_width n at len low size) (omega (arith, low, size))

-- the numbers that a word tells are low
pub told_low : (n : ℕ) (a : List ℕ) (at : ℕ) → IsPadded n a → at < length a → length a ≡ n * words_a_row n
    → (t : ℕ) → bit_at (get_or a at 0) t ≡ 1 → (t < 64) × (64 * (at % words_a_row n) + t < n)
told_low n a at padded low size t bit =
    let wide : 0 < words_a_row n = some_width n at (length a) low size in
    let e : at / words_a_row n * words_a_row n + at % words_a_row n ≡ at = div-add-mod' at (words_a_row n) in
    padded (at / words_a_row n) (at % words_a_row n) t (row_low n at (length a) low size) (mod_below at (words_a_row n) wide) (ap (λ k. bit_at (get_or a k 0) t) e ∙ bit)

module _ (n : ℕ) (a b : List ℕ) where
  -- what the words before one lead to
  abbrev pub LedBefore : ℕ → ℕ → ℕ → ℕ → Type 0
  LedBefore at x w p = (c : ℕ) × (c < words_a_row n) × (x * words_a_row n + c < at) × Leads n a b c x w p

  pub led_none : (words : List ℕ) → ((x w p : ℕ) → x < n → w < words_a_row n → IsSet n words x w p → ⊥) → HasBits n words (LedBefore 0)
  led_none words none x w p hx hw = (λ s. absurd (none x w p hx hw s), λ d. absurd (omega (arith, d.2)))

  pub led_zeros : (k : ℕ) (words : List ℕ) → words ≡ replicate k 0 → HasBits n words (LedBefore 0)
  led_zeros k words e = led_none words (λ x w p hx hw s. absurd (omega (arith, sym s ∙ ap (λ v. bit_at v p) (zeros_are k words e (x * words_a_row n + w)), bit_at-zero p)))

  -- a word that is zero leads nowhere
  pub led_zero : (at : ℕ) (words : List ℕ) → get_or a at 0 ≡ 0 → HasBits n words (LedBefore at) → HasBits n words (LedBefore (at + 1))
  led_zero at words none = bits_as n words (LedBefore at) (LedBefore (at + 1)) (λ x w p hx hw. (forth x w p, back x w p))
    where
      forth : (x w p : ℕ) → LedBefore at x w p → LedBefore (at + 1) x w p
      forth x w p d = (d.0, d.1, omega (arith, d.2), d.3)

      pick : (x w p c : ℕ) → c < words_a_row n → x * words_a_row n + c < at + 1 → Leads n a b c x w p → (x * words_a_row n + c ≡ at) ⊎ (x * words_a_row n + c ≡ at → ⊥) → LedBefore at x w p
      pick x w p c hc low d (inl e) =
          let bit : bit_at 0 d.0 ≡ 1 = sym (ap (λ v. bit_at v d.0) (ap (λ k. get_or a k 0) e ∙ none)) ∙ d.1 in
          absurd (omega (arith, bit, bit_at-zero d.0))
      pick x w p c hc low d (inr ne) = let u : x * words_a_row n + c ≢ at = ne in (c, hc, omega (arith, low), d)

      back : (x w p : ℕ) → LedBefore (at + 1) x w p → LedBefore at x w p
      back x w p d = pick x w p d.0 d.1 d.2 d.3 (cases_eq (x * words_a_row n + d.0) at)

  module _ (at width : ℕ) (low : at < length a) (size : length a ≡ n * words_a_row n) (is : width ≡ words_a_row n) where
    abbrev Gained : ℕ → ℕ → ℕ → Type 0
    Gained x w p = (x ≡ at / width) × Told n b (get_or a at 0) (at % width) w p

    wide : 0 < words_a_row n
    wide = some_width n at (length a) low size

    whole : at / words_a_row n * words_a_row n + at % words_a_row n ≡ at
    whole = div-add-mod' at (words_a_row n)

    led_forth : (x w p : ℕ) → LedBefore at x w p ⊎ Gained x w p → LedBefore (at + 1) x w p
    led_forth x w p (inl d) = (d.0, d.1, omega (arith, d.2), d.3)
    led_forth x w p (inr g) =
        let row : x ≡ at / words_a_row n = g.0 ∙ ap (λ v. at / v) is in
        let place : x * words_a_row n + at % words_a_row n ≡ at = ap (λ r. r * words_a_row n + at % words_a_row n) row ∙ whole in (
          at % words_a_row n,
          mod_below at (words_a_row n) wide,
          omega (arith, place),
          (g.1.0, ap (λ k. bit_at (get_or a k 0) g.1.0) place ∙ g.1.1, subst (λ v. IsSet n b (64 * (at % v) + g.1.0) w p) is g.1.2),
        )

    led_pick : (x w p c : ℕ) → c < words_a_row n → x * words_a_row n + c < at + 1 → Leads n a b c x w p → (x * words_a_row n + c ≡ at) ⊎ (x * words_a_row n + c ≡ at → ⊥)
        → LedBefore at x w p ⊎ Gained x w p
    led_pick x w p c hc h d (inl e) =
        let same = same_from_place x c (at / words_a_row n) (at % words_a_row n) (words_a_row n) hc (mod_below at (words_a_row n) wide) (e ∙ sym whole) in
        inr (
          same.0 ∙ sym (ap (λ v. at / v) is),
          (
            d.0,
            sym (ap (λ k. bit_at (get_or a k 0) d.0) e) ∙ d.1,
            subst (λ v. IsSet n b (64 * (at % v) + d.0) w p) (sym is) (subst (λ v. IsSet n b (64 * v + d.0) w p) same.1 d.2),
          ),
        )
    led_pick x w p c hc h d (inr ne) = let u : x * words_a_row n + c ≢ at = ne in inl (c, hc, omega (arith, h), d)

    led_back : (x w p : ℕ) → LedBefore (at + 1) x w p → LedBefore at x w p ⊎ Gained x w p
    led_back x w p d = led_pick x w p d.0 d.1 d.2 d.3 (cases_eq (x * words_a_row n + d.0) at)

    pub led_more : (old new : List ℕ) → HasBits n old (LedBefore at) → GainsBits n old new (λ x w p. (x ≡ at / width) × Told n b (get_or a at 0) (at % width) w p) → HasBits n new (LedBefore (at + 1))
    led_more old new g h = bits_more n (LedBefore at) Gained (LedBefore (at + 1)) (λ x w p hx hw. (led_forth x w p, led_back x w p)) old new g h

  pub led_all : (at : ℕ) (words : List ℕ) → n * words_a_row n ≤ at → HasBits n words (LedBefore at)
      → HasBits n words (λ x w p. (c : ℕ) × (c < words_a_row n) × Leads n a b c x w p)
  led_all at words e = bits_as n words (LedBefore at) (λ x w p. (c : ℕ) × (c < words_a_row n) × Leads n a b c x w p) (λ x w p hx hw. (forth x w p, back x w p hx))
    where
      forth : (x w p : ℕ) → LedBefore at x w p → (c : ℕ) × (c < words_a_row n) × Leads n a b c x w p
      forth x w p d = (d.0, d.1, d.3)

      back : (x w p : ℕ) → x < n → (c : ℕ) × (c < words_a_row n) × Leads n a b c x w p → LedBefore at x w p
      back x w p hx d = (d.0, d.1, omega (arith, e, mul-add-lt x (words_a_row n) d.0 n hx d.1), d.2)

  -- rows that have exactly their own numbers lead to the same rows
  pub unit_rows : ((row : ℕ) → row < n → IsUnit n a row) → HasBits n b (λ x w p. (c : ℕ) × (c < words_a_row n) × Leads n a b c x w p)
  unit_rows unit x w p hx hw = (forth, λ d. back d.0 d.1 d.2 (cases_eq d.0 (x / 64)))
    where
      forth : IsSet n b x w p → (c : ℕ) × (c < words_a_row n) × Leads n a b c x w p
      forth s =
          let hc : x / 64 < words_a_row n = omega arith in
          let e : 64 * (x / 64) + x % 64 ≡ x = omega arith in
          (x / 64, hc, (x % 64, ap (λ v. bit_at v (x % 64)) ((unit x hx (x / 64) hc).0 refl) ∙ bit_at-pow_same (x % 64), subst (λ v. IsSet n b v w p) (sym e) s))

      at : (t : ℕ) → bit_at (2 ^ (x % 64)) t ≡ 1 → (t ≡ x % 64) ⊎ (t ≡ x % 64 → ⊥) → t ≡ x % 64
      at t bit (inl e) = e
      at t bit (inr ne) = absurd (omega (arith, bit, bit_at-pow_other (x % 64) t ne))

      back : (c : ℕ) → c < words_a_row n → Leads n a b c x w p → (c ≡ x / 64) ⊎ (c ≡ x / 64 → ⊥) → IsSet n b x w p
      back c hc d (inl e) =
          let bit : bit_at (2 ^ (x % 64)) d.0 ≡ 1 = sym (ap (λ v. bit_at v d.0) ((unit x hx c hc).0 e)) ∙ d.1 in
          let t : d.0 ≡ x % 64 = at d.0 bit (cases_eq d.0 (x % 64)) in
          let same : 64 * c + d.0 ≡ x = omega (arith, e, t) in
          subst (λ v. IsSet n b v w p) same d.2
      back c hc d (inr ne) =
          let bit : bit_at 0 d.0 ≡ 1 = sym (ap (λ v. bit_at v d.0) ((unit x hx c hc).1 ne)) ∙ d.1 in
          absurd (omega (arith, bit, bit_at-zero d.0))
