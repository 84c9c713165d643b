-- For callers: a pair is in the set or it isn't, its numbers are below the size, and a composition is one matrix.
use Rattle.std.proofs.Common.{◌≡◌, ◌⊎◌, inl, inr, ℕ, ◌/◌, ◌%◌, ◌<◌, ◌≤◌, arith}
use Rattle.std.proofs.lemmas.Bool.{cases_eq, cases_lt}
use Rattle.tc_mat.specs.Matrix.{Matrix, bit_of, HasPair, IsMatrix, IsComposition}
use Rattle.tc_mat.proofs.Sets.{one_form}

pub HasPair-below : (m : Matrix) (i j : ℕ) → HasPair m i j → (i < m.size) × (j < m.size)
unfolding HasPair
HasPair-below m i j h = (h.0, h.1)

pub HasPair-or_not : (m : Matrix) (i j : ℕ) → HasPair m i j ⊎ (HasPair m i j → ⊥)
unfolding HasPair
HasPair-or_not m i j = by (cases_lt i m.size) (cases_lt j m.size) (cases_eq (bit_of m i (j / 64) (j % 64)) 1)
  where
    by : (i < m.size) ⊎ (m.size ≤ i) → (j < m.size) ⊎ (m.size ≤ j) → (bit_of m i (j / 64) (j % 64) ≡ 1) ⊎ (bit_of m i (j / 64) (j % 64) ≡ 1 → ⊥)
        → HasPair m i j ⊎ (HasPair m i j → ⊥)
    by (inl a) (inl b) (inl c) = inl (a, b, c)
    by (inr a) b c = inr (λ h. absurd (omega (arith, h.0)))
    by (inl a) (inr b) c = inr (λ h. absurd (omega (arith, h.1)))
    by (inl a) (inl b) (inr c) = inr (λ h. c h.2)

pub composition_is_one : (a b m k : Matrix) → IsMatrix m → IsMatrix k → m.size ≡ k.size → IsComposition a b m → IsComposition a b k → m ≡ k
composition_is_one a b m k p q e f g =
    one_form m k p q e (λ i j. (λ h. (g i j).1 ((f i j).0 h), λ h. (f i j).1 ((g i j).0 h)))
