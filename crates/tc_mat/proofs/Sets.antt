-- Sets of pairs and the bits that keep them.
use Rattle.std.proofs.Common.{◌≡◌, ◌≢◌, ◌⊎◌, inl, inr, ℕ, ◌+◌, ◌*◌, ◌/◌, ◌%◌, ◌<◌, ◌≤◌, ◌^◌, List, sym, ap, subst, ◌∙◌, length, get_or, set, arith, bit_or, take, drop, ◌++◌, replicate}
use Rattle.std.specs.Prelude.{◌↔◌}
use Rattle.std.specs.Int.{bit_at}
use Rattle.std.proofs.lemmas.Bool.{cases_eq, cases_lt}
use Rattle.std.proofs.lemmas.List.{ext_get_or, get_or-set_same, get_or-set_other, length-set, take_at, get_or-replicate, get_or_past, length-replicate}
use Rattle.std.proofs.lemmas.Nat.{mul-add-lt, same_from_place, div_below, div-add-mod', mod_below}
use Rattle.std.proofs.lemmas.Nat.Bits.{bit_at_or, bit_at-pow_same, bit_at-pow_other, same_from_bits, bit_at-lt, bit_at-zero}
use Rattle.tc_mat.specs.Matrix.{Matrix, words_a_row, bit_of, HasPair, IsMatrix, HaveSamePairs, SetsHaveOneForm, Gains, HasNone}

abbrev pub matrix : ℕ → List ℕ → Matrix
matrix n words = record { size = n; words = words }

pub column_fits : (n j : ℕ) → j < n → j / 64 < words_a_row n
column_fits n j h = omega arith

or_same : (w k : ℕ) → bit_at (bit_or w (2 ^ k)) k ≡ 1
or_same w k = omega (arith, bit_at_or w (2 ^ k) k, bit_at-pow_same k, bit_at-lt w k)

or_other : (w k m : ℕ) → m ≢ k → bit_at (bit_or w (2 ^ k)) m ≡ bit_at w m
or_other w k m ne = omega (arith, bit_at_or w (2 ^ k) m, bit_at-pow_other k m ne)

-- ---- a bit that is set
module _ (n : ℕ) (words : List ℕ) (i j : ℕ) (ok : IsMatrix (matrix n words)) (row : i < n) (column : j < n) where
  abbrev place : ℕ
  place = i * words_a_row n + j / 64

  pub within : place < length words
  within = omega (arith, mul-add-lt i (words_a_row n) (j / 64) n row (column_fits n j column), ok.whole)

  abbrev after : List ℕ
  after = set words place (bit_or (get_or words place 0) (2 ^ (j % 64)))

  abbrev IsThere : ℕ → ℕ → ℕ → Type 0
  IsThere x w p = (x ≡ i) × (w ≡ j / 64) × (p ≡ j % 64)

  touched : (x w p : ℕ) → x < n → w < words_a_row n
      → (IsThere x w p × (bit_of (matrix n after) x w p ≡ 1))
      ⊎ ((IsThere x w p → ⊥) × (bit_of (matrix n after) x w p ≡ bit_of (matrix n words) x w p))
  touched x w p hx hw = by_place (cases_eq (x * words_a_row n + w) place)
    where
      by_bit : (x * words_a_row n + w ≡ place) → (x ≡ i) × (w ≡ j / 64) → (p ≡ j % 64) ⊎ (p ≡ j % 64 → ⊥)
          → (IsThere x w p × (bit_of (matrix n after) x w p ≡ 1))
          ⊎ ((IsThere x w p → ⊥) × (bit_of (matrix n after) x w p ≡ bit_of (matrix n words) x w p))
      by_bit e s (inl q) =
          inl ((s.0, s.1, q), ap (λ k. bit_at (get_or after k 0) p) e ∙ (ap (λ v. bit_at v p) (get_or-set_same words place _ 0 within) ∙ (ap (λ m. bit_at (bit_or (get_or words place 0) (2 ^ (j % 64))) m) q ∙ or_same (get_or words place 0) (j % 64))))
      by_bit e s (inr q) =
          inr (λ t. q t.2, ap (λ k. bit_at (get_or after k 0) p) e ∙ (ap (λ v. bit_at v p) (get_or-set_same words place _ 0 within) ∙ (or_other (get_or words place 0) (j % 64) p q ∙ sym (ap (λ k. bit_at (get_or words k 0) p) e))))

      by_place : (x * words_a_row n + w ≡ place) ⊎ (x * words_a_row n + w ≡ place → ⊥)
          → (IsThere x w p × (bit_of (matrix n after) x w p ≡ 1))
          ⊎ ((IsThere x w p → ⊥) × (bit_of (matrix n after) x w p ≡ bit_of (matrix n words) x w p))
      by_place (inl e) = by_bit e (same_from_place x w i (j / 64) (words_a_row n) hw (column_fits n j column) e) (cases_eq p (j % 64))
      by_place (inr ne) =
          inr (λ t. ne (ap (λ r. r * words_a_row n + w) t.0 ∙ ap (λ c. i * words_a_row n + c) t.1), ap (λ v. bit_at v p) (get_or-set_other words place (x * words_a_row n + w) _ 0 ne))

  pub set_is_matrix : IsMatrix (matrix n after)
  set_is_matrix = record {
    whole = length-set words place _ ∙ ok.whole;
    padding = λ x w p hx hw out. kept x w p hx hw out (touched x w p hx hw);
  }
    where
      outside : (p : ℕ) → p ≡ j % 64 → (64 ≤ p) ⊎ (n ≤ 64 * (j / 64) + p) → ⊥
      outside p e (inl a) = absurd (omega arith)
      outside p e (inr a) = absurd (omega arith)

      kept : (x w p : ℕ) → x < n → w < words_a_row n → (64 ≤ p) ⊎ (n ≤ 64 * w + p)
          → (IsThere x w p × (bit_of (matrix n after) x w p ≡ 1))
          ⊎ ((IsThere x w p → ⊥) × (bit_of (matrix n after) x w p ≡ bit_of (matrix n words) x w p))
          → bit_of (matrix n after) x w p ≡ 0
      kept x w p hx hw out (inl t) =
          absurd (outside p t.0.2 (subst (λ c. (64 ≤ p) ⊎ (n ≤ 64 * c + p)) t.0.1 out))
      kept x w p hx hw out (inr t) = t.1 ∙ ok.padding x w p hx hw out

  pub set_gains : Gains (matrix n words) i j (matrix n after)
  unfolding HasPair
  set_gains x y = (forth, back)
    where
      forth : HasPair (matrix n after) x y → HasPair (matrix n words) x y ⊎ ((x ≡ i) × (y ≡ j))
      forth h = by (touched x (y / 64) (y % 64) h.0 (column_fits n y h.1))
        where
          by : (IsThere x (y / 64) (y % 64) × (bit_of (matrix n after) x (y / 64) (y % 64) ≡ 1))
              ⊎ ((IsThere x (y / 64) (y % 64) → ⊥) × (bit_of (matrix n after) x (y / 64) (y % 64) ≡ bit_of (matrix n words) x (y / 64) (y % 64)))
              → HasPair (matrix n words) x y ⊎ ((x ≡ i) × (y ≡ j))
          by (inl t) = inr (t.0.0, omega (arith, t.0.1, t.0.2))
          by (inr t) = inl (h.0, h.1, sym t.1 ∙ h.2)

      back : HasPair (matrix n words) x y ⊎ ((x ≡ i) × (y ≡ j)) → HasPair (matrix n after) x y
      back (inl h) = by (touched x (y / 64) (y % 64) h.0 (column_fits n y h.1))
        where
          by : (IsThere x (y / 64) (y % 64) × (bit_of (matrix n after) x (y / 64) (y % 64) ≡ 1))
              ⊎ ((IsThere x (y / 64) (y % 64) → ⊥) × (bit_of (matrix n after) x (y / 64) (y % 64) ≡ bit_of (matrix n words) x (y / 64) (y % 64)))
              → HasPair (matrix n after) x y
          by (inl t) = (h.0, h.1, t.1)
          by (inr t) = (h.0, h.1, t.1 ∙ h.2)
      back (inr e) = by (touched x (y / 64) (y % 64) hx (column_fits n y hy))
        where
          hx : x < n
          hx = omega (arith, e.0)

          hy : y < n
          hy = omega (arith, e.1)

          by : (IsThere x (y / 64) (y % 64) × (bit_of (matrix n after) x (y / 64) (y % 64) ≡ 1))
              ⊎ ((IsThere x (y / 64) (y % 64) → ⊥) × (bit_of (matrix n after) x (y / 64) (y % 64) ≡ bit_of (matrix n words) x (y / 64) (y % 64)))
              → HasPair (matrix n after) x y
          by (inl t) = (hx, hy, t.1)
          by (inr t) = absurd (t.0 (e.0, ap (λ k. k / 64) e.1, ap (λ k. k % 64) e.1))

-- a list written back into the place that it was lent from
pub written_back : (xs ys : List ℕ) (n : ℕ) → n ≡ length xs → length ys ≡ length xs → take n (ys ++ drop (length ys) xs) ≡ ys
written_back xs ys n e f = take_at ys (drop (length ys) xs) n (f ∙ sym e)

-- what a write through a lent slice leaves
pub set_back : (n len w i j : ℕ) (kept lent new : List ℕ) → lent ≡ kept → w ≡ words_a_row n → length lent ≡ len → length new ≡ length lent
    → new ≡ set lent (i * w + j / 64) (bit_or (get_or lent (i * w + j / 64) 0) (2 ^ (j % 64)))
    → take len (new ++ drop (length new) kept) ≡ set kept (i * words_a_row n + j / 64) (bit_or (get_or kept (i * words_a_row n + j / 64) 0) (2 ^ (j % 64)))
set_back n len w i j kept lent new lends wide e f is =
    written_back kept new len (sym e ∙ ap length lends) (f ∙ ap length lends)
    ∙ (is
    ∙ (ap (λ ws. set ws (i * w + j / 64) (bit_or (get_or ws (i * w + j / 64) 0) (2 ^ (j % 64)))) lends
    ∙ ap (λ v. set kept (i * v + j / 64) (bit_or (get_or kept (i * v + j / 64) 0) (2 ^ (j % 64)))) wide))

-- words that are all zero have no pair
pub zeros_have_none : (n k : ℕ) (words : List ℕ) → words ≡ replicate k 0 → HasNone (matrix n words)
unfolding HasPair
zeros_have_none n k words e i j h = by (cases_lt at k)
  where
    at : ℕ
    at = i * words_a_row n + j / 64

    none : get_or words at 0 ≡ 0 → ⊥
    none z =
        let b : bit_at (get_or words at 0) (j % 64) ≡ 1 = h.2 in
        omega (arith, sym b ∙ ap (λ v. bit_at v (j % 64)) z, bit_at-zero (j % 64))

    by : (at < k) ⊎ (k ≤ at) → ⊥
    by (inl l) = none (ap (λ ws. get_or ws at 0) e ∙ get_or-replicate k at 0 0 l)
    by (inr l) = none (ap (λ ws. get_or ws at 0) e ∙ get_or_past (replicate k 0) at 0 (omega (arith, length-replicate {A = ℕ} k 0)))

-- words that are all zero are a matrix, where the rows are whole
pub zeros_are_matrix : (n : ℕ) (words : List ℕ) → words ≡ replicate (n * words_a_row n) 0 → IsMatrix (matrix n words)
zeros_are_matrix n words e = record {
  whole = ap length e ∙ length-replicate {A = ℕ} (n * words_a_row n) 0;
  padding = λ x w p hx hw out. ap (λ v. bit_at v p) (zero x w hx hw) ∙ bit_at-zero p;
}
  where
    zero : (x w : ℕ) → x < n → w < words_a_row n → get_or words (x * words_a_row n + w) 0 ≡ 0
    zero x w hx hw = ap (λ ws. get_or ws (x * words_a_row n + w) 0) e ∙ get_or-replicate (n * words_a_row n) (x * words_a_row n + w) 0 0 (omega (arith, mul-add-lt x (words_a_row n) w n hx hw))

-- the test of a bit is the test of its pair
pub has_by_bit : (T : Type 0) (m : Matrix) (n w i j : ℕ) (words kept : List ℕ) → matrix n kept ≡ m → words ≡ kept → w ≡ words_a_row n
    → i < m.size → j < m.size → T ↔ (bit_at (get_or words (i * w + j / 64) 0) (j % 64) ≡ 1) → T ↔ HasPair m i j
unfolding HasPair
has_by_bit T m n w i j words kept view same wide row column test = (λ t. (row, column, sym e ∙ test.0 t), λ h. test.1 (e ∙ h.2))
  where
    e : bit_at (get_or words (i * w + j / 64) 0) (j % 64) ≡ bit_of m i (j / 64) (j % 64)
    e =
        ap (λ ws. bit_at (get_or ws (i * w + j / 64) 0) (j % 64)) same
        ∙ (ap (λ v. bit_at (get_or kept (i * v + j / 64) 0) (j % 64)) wide
        ∙ ap (λ k. bit_of k i (j / 64) (j % 64)) view)

-- ---- one form
-- two bits that are 1 together are equal
same_bit : (a b : ℕ) → a < 2 → b < 2 → (a ≡ 1 → b ≡ 1) → (b ≡ 1 → a ≡ 1) → a ≡ b
same_bit a b p q f g = by (cases_eq a 1) (cases_eq b 1)
  where
    by : (a ≡ 1) ⊎ (a ≡ 1 → ⊥) → (b ≡ 1) ⊎ (b ≡ 1 → ⊥) → a ≡ b
    by (inl x) y = x ∙ sym (f x)
    by (inr x) (inl y) = absurd (x (g y))
    by (inr x) (inr y) = let u : a ≢ 1 = x in let v : b ≢ 1 = y in omega arith

module _ (n : ℕ) (xs ys : List ℕ) (p : IsMatrix (matrix n xs)) (q : IsMatrix (matrix n ys)) (same : HaveSamePairs (matrix n xs) (matrix n ys)) where
  same_place_bit : (row word place : ℕ) → row < n → word < words_a_row n → bit_of (matrix n xs) row word place ≡ bit_of (matrix n ys) row word place
  unfolding HasPair
  same_place_bit row word place hr hw = by (cases_lt place 64) (cases_lt (64 * word + place) n)
    where
      by : (place < 64) ⊎ (64 ≤ place) → (64 * word + place < n) ⊎ (n ≤ 64 * word + place)
          → bit_of (matrix n xs) row word place ≡ bit_of (matrix n ys) row word place
      by (inr a) b = p.padding row word place hr hw (inl a) ∙ sym (q.padding row word place hr hw (inl a))
      by (inl a) (inr b) = p.padding row word place hr hw (inr b) ∙ sym (q.padding row word place hr hw (inr b))
      by (inl a) (inl b) =
          let u : (64 * word + place) / 64 ≡ word = omega arith in
          let v : (64 * word + place) % 64 ≡ place = omega arith in
          let w = same row (64 * word + place) in
          same_bit _ _ (bit_at-lt _ place) (bit_at-lt _ place)
          (λ h. subst (λ k. bit_of (matrix n ys) row word k ≡ 1) v (subst (λ k. bit_of (matrix n ys) row k ((64 * word + place) % 64) ≡ 1) u
          (w.0 (hr, b, subst (λ k. bit_of (matrix n xs) row k ((64 * word + place) % 64) ≡ 1) (sym u) (subst (λ k. bit_of (matrix n xs) row word k ≡ 1) (sym v) h))).2))
          (λ h. subst (λ k. bit_of (matrix n xs) row word k ≡ 1) v (subst (λ k. bit_of (matrix n xs) row k ((64 * word + place) % 64) ≡ 1) u
          (w.1 (hr, b, subst (λ k. bit_of (matrix n ys) row k ((64 * word + place) % 64) ≡ 1) (sym u) (subst (λ k. bit_of (matrix n ys) row word k ≡ 1) (sym v) h))).2))

  some_word : (at : ℕ) → at < length xs → 0 < words_a_row n
  some_word at h = by (cases_eq n 0)
    where
      by : (n ≡ 0) ⊎ (n ≡ 0 → ⊥) → 0 < words_a_row n
      by (inl e) = absurd (omega (arith, p.whole, ap (λ k. k * words_a_row n) e))
      by (inr ne) = let u : n ≢ 0 = ne in omega arith

  same_word : (at : ℕ) → at < length xs → get_or xs at 0 ≡ get_or ys at 0
  same_word at h =
      let wide : 0 < words_a_row n = some_word at h in
      let hr : at / words_a_row n < n = div_below at (words_a_row n) n wide (omega (arith, p.whole)) in
      let hw : at % words_a_row n < words_a_row n = mod_below at (words_a_row n) wide in
      let e : at / words_a_row n * words_a_row n + at % words_a_row n ≡ at = div-add-mod' at (words_a_row n) in
      same_from_bits (get_or xs at 0) (get_or ys at 0)
      (λ k. subst (λ m. bit_at (get_or xs m 0) k ≡ bit_at (get_or ys m 0) k) e (same_place_bit (at / words_a_row n) (at % words_a_row n) k hr hw))

  pub same_words : xs ≡ ys
  same_words = ext_get_or 0 xs ys (p.whole ∙ sym q.whole) same_word

pub one_form : SetsHaveOneForm
one_form a b p q e same =
    let P : ℕ → Type 0 = λ n. IsMatrix (matrix n b.words) in
    let S : ℕ → Type 0 = λ n. HaveSamePairs a (matrix n b.words) in
    let w : a.words ≡ b.words = same_words a.size a.words b.words p (subst P (sym e) q) (subst S (sym e) same) in
    ap (λ n. matrix n a.words) e ∙ ap (matrix b.size) w
