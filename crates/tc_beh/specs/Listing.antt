-- Sets of pairs as lists, and lists of pairs as sets.
use Rattle.std.specs.Prelude.{◌≡◌, ◌<◌, ◌≤◌, ◌↔◌, ℕ, List, [], length, map, filter, get_or}
use Rattle.std.specs.Int.{bit_at}
use Rattle.std.specs.List.{Contains}
use Rattle.tc_model.specs.Numbered.{numbers_below}
use Rattle.tc_mat.specs.Matrix.{Matrix, HasPair}
use Rattle.tc_beh.specs.Places.{is_pair}

-- the pairs of a matrix from one number to each of the first ones
abbrev pub row_pairs : Matrix → ℕ → ℕ → List (ℕ × ℕ)
row_pairs m from n = filter (is_pair m) (map (λ j. (from, j)) (numbers_below n))

-- no list of pairs stands at two places
abbrev pub AreDistinct : List (List (ℕ × ℕ)) → Type 0
AreDistinct lists = (i j : ℕ) → i < length lists → j < length lists → get_or lists i [] ≡ get_or lists j [] → i ≡ j

-- the matrix has the pairs of the list
abbrev pub HasPairs : Matrix → List (ℕ × ℕ) → Type 0
HasPairs m pairs = (i j : ℕ) → HasPair m i j ↔ Contains pairs (i, j)

-- the bits of a word at these places are zero
abbrev pub AreZero : ℕ → ℕ → ℕ → Type 0
AreZero word start end = (p : ℕ) → start ≤ p → p < end → bit_at word p ≡ 0

-- the first place, from one on, at which the bit isn't zero
abbrev pub IsFirstBit : ℕ → ℕ → ℕ → Type 0
IsFirstBit word start k = (start ≤ k) × (k < 64) × (bit_at word k ≡ 1) × AreZero word start k

-- the number leads to none of these numbers
abbrev pub LeadsNowhere : Matrix → ℕ → ℕ → ℕ → Type 0
LeadsNowhere m from start end = (j : ℕ) → start ≤ j → j < end → HasPair m from j → ⊥

-- the first number, from one on, to which the number leads
abbrev pub IsNext : Matrix → ℕ → ℕ → ℕ → Type 0
IsNext m from start to = (start ≤ to) × HasPair m from to × LeadsNowhere m from start to
