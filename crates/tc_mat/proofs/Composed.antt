-- The words of a composition as a set of pairs.
use Rattle.std.proofs.Common.{◌≡◌, ◌≢◌, ◌⊎◌, inl, inr, ℕ, ◌+◌, ◌*◌, ◌/◌, ◌%◌, ◌<◌, ◌≤◌, List, sym, ap, subst, ◌∙◌, length, get_or, arith, take, drop, ◌++◌}
use Rattle.std.specs.Int.{bit_at}
use Rattle.std.proofs.lemmas.Bool.{cases_eq, cases_lt}
use Rattle.std.proofs.lemmas.Nat.Bits.{bit_at-lt}
use Rattle.tc_mat.specs.Matrix.{Matrix, words_a_row, bit_of, HasPair, IsMatrix, IsComposition}
use Rattle.tc_mat.specs.Product.{HasBits, Leads, IsPadded}
use Rattle.tc_mat.proofs.Sets.{matrix, column_fits, written_back}

pub is_padded : (n : ℕ) (words : List ℕ) → IsMatrix (matrix n words) → IsPadded n words
is_padded n words ok x w p hx hw bit = (by_place (cases_lt p 64), by_number (cases_lt (64 * w + p) n))
  where
    by_place : (p < 64) ⊎ (64 ≤ p) → p < 64
    by_place (inl l) = l
    by_place (inr l) = let z = ok.padding x w p hx hw (inl l) in absurd (omega (arith, bit, z))

    by_number : (64 * w + p < n) ⊎ (n ≤ 64 * w + p) → 64 * w + p < n
    by_number (inl l) = l
    by_number (inr l) = let z = ok.padding x w p hx hw (inr l) in absurd (omega (arith, bit, z))

module _ (n : ℕ) (a b out : List ℕ) (pa : IsMatrix (matrix n a)) (pb : IsMatrix (matrix n b)) (size : length out ≡ n * words_a_row n)
    (has : HasBits n out (λ x w p. (c : ℕ) × (c < words_a_row n) × Leads n a b c x w p)) where
  pub composed_is_matrix : IsMatrix (matrix n out)
  composed_is_matrix = record { whole = size; padding = λ x w p hx hw o. zero_bit x w p hx hw o (cases_eq (bit_of (matrix n out) x w p) 1) }
    where
      outside : (w p : ℕ) → (64 ≤ p) ⊎ (n ≤ 64 * w + p) → (p < 64) × (64 * w + p < n) → ⊥
      outside w p (inl l) h = absurd (omega (arith, h.0))
      outside w p (inr l) h = absurd (omega (arith, h.1))

      zero_bit : (x w p : ℕ) → x < n → w < words_a_row n → (64 ≤ p) ⊎ (n ≤ 64 * w + p)
          → (bit_of (matrix n out) x w p ≡ 1) ⊎ (bit_of (matrix n out) x w p ≡ 1 → ⊥) → bit_of (matrix n out) x w p ≡ 0
      zero_bit x w p hx hw o (inl e) =
          let d = (has x w p hx hw).0 e in
          let left = is_padded n a pa x d.0 d.2.0 hx d.1 d.2.1 in
          absurd (outside w p o (is_padded n b pb (64 * d.0 + d.2.0) w p left.1 hw d.2.2))
      zero_bit x w p hx hw o (inr ne) =
          let u : bit_of (matrix n out) x w p ≢ 1 = ne in omega (arith, bit_at-lt (get_or out (x * words_a_row n + w) 0) p)

  pub composed : IsComposition (matrix n a) (matrix n b) (matrix n out)
  unfolding HasPair
  composed i j = (forth, back)
    where
      forth : HasPair (matrix n out) i j → (k : ℕ) × HasPair (matrix n a) i k × HasPair (matrix n b) k j
      forth h =
          let d = (has i (j / 64) (j % 64) h.0 (column_fits n j h.1)).0 h.2 in
          let left = is_padded n a pa i d.0 d.2.0 h.0 d.1 d.2.1 in
          let word : (64 * d.0 + d.2.0) / 64 ≡ d.0 = omega (arith, left.0) in
          let place : (64 * d.0 + d.2.0) % 64 ≡ d.2.0 = omega (arith, left.0) in (
            64 * d.0 + d.2.0,
            (h.0, left.1, ap (λ v. bit_of (matrix n a) i v ((64 * d.0 + d.2.0) % 64)) word ∙ (ap (bit_of (matrix n a) i d.0) place ∙ d.2.1)),
            (left.1, h.1, d.2.2),
          )

      back : (k : ℕ) × HasPair (matrix n a) i k × HasPair (matrix n b) k j → HasPair (matrix n out) i j
      back t =
          let k : ℕ = t.0 in
          let e : 64 * (k / 64) + k % 64 ≡ k = omega arith in (
            t.1.0,
            t.2.1,
            (has i (j / 64) (j % 64) t.1.0 (column_fits n j t.2.1)).1
                (k / 64, column_fits n k t.1.1, (k % 64, t.1.2, ap (λ v. bit_at (get_or b (v * words_a_row n + j / 64) 0) (j % 64)) e ∙ t.2.2)),
          )

-- the same, of what was lent
pub composed_back : (n na nb len : ℕ) (ma mb : Matrix) (a b la lb kept lent new : List ℕ) → matrix na a ≡ ma → matrix nb b ≡ mb → na ≡ n → nb ≡ n → la ≡ a → lb ≡ b
    → IsMatrix (matrix na a) → IsMatrix (matrix nb b) → lent ≡ kept → length lent ≡ len → length new ≡ length lent → length kept ≡ n * words_a_row n
    → HasBits n new (λ x w p. (c : ℕ) × (c < words_a_row n) × Leads n la lb c x w p)
    → IsComposition ma mb (matrix n (take len (new ++ drop (length new) kept)))
composed_back n na nb len ma mb a b la lb kept lent new va vb ea eb ta tb pa pb lends lens same size has =
    subst (λ m. IsComposition m mb (matrix n (take len (new ++ drop (length new) kept)))) (sym (ap (λ v. matrix v a) ea) ∙ va)
    (subst (λ m. IsComposition (matrix n a) m (matrix n (take len (new ++ drop (length new) kept)))) (sym (ap (λ v. matrix v b) eb) ∙ vb)
    (subst (λ ws. IsComposition (matrix n a) (matrix n b) (matrix n ws)) (sym (written_back kept new len (sym lens ∙ ap length lends) (same ∙ ap length lends)))
    (composed n a b new (subst (λ v. IsMatrix (matrix v a)) ea pa) (subst (λ v. IsMatrix (matrix v b)) eb pb) (same ∙ (ap length lends ∙ size))
    (subst (λ v. HasBits n new (λ x w p. (c : ℕ) × (c < words_a_row n) × Leads n v b c x w p)) ta
    (subst (λ v. HasBits n new (λ x w p. (c : ℕ) × (c < words_a_row n) × Leads n la v c x w p)) tb has)))))

pub composed_whole : (n na nb len : ℕ) (a b la lb kept lent new : List ℕ) → na ≡ n → nb ≡ n → la ≡ a → lb ≡ b
    → IsMatrix (matrix na a) → IsMatrix (matrix nb b) → lent ≡ kept → length lent ≡ len → length new ≡ length lent → length kept ≡ n * words_a_row n
    → HasBits n new (λ x w p. (c : ℕ) × (c < words_a_row n) × Leads n la lb c x w p)
    → IsMatrix (matrix n (take len (new ++ drop (length new) kept)))
composed_whole n na nb len a b la lb kept lent new ea eb ta tb pa pb lends lens same size has =
    subst (λ ws. IsMatrix (matrix n ws)) (sym (written_back kept new len (sym lens ∙ ap length lends) (same ∙ ap length lends)))
    (composed_is_matrix n a b new (subst (λ v. IsMatrix (matrix v a)) ea pa) (subst (λ v. IsMatrix (matrix v b)) eb pb) (same ∙ (ap length lends ∙ size))
    (subst (λ v. HasBits n new (λ x w p. (c : ℕ) × (c < words_a_row n) × Leads n v b c x w p)) ta
    (subst (λ v. HasBits n new (λ x w p. (c : ℕ) × (c < words_a_row n) × Leads n la v c x w p)) tb has)))
