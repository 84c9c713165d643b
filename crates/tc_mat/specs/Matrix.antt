-- Sets of pairs of numbers below a size, kept as rows of bits.
use Rattle.std.specs.Prelude.{◌≡◌, ℕ, ◌+◌, ◌*◌, ◌/◌, ◌%◌, ◌<◌, ◌≤◌, ◌⊎◌, ◌↔◌, List, length, slice_index}
use Rattle.std.specs.Int.{bit_at}

-- a size, and the words of 64 bits of the rows, one row after another
pub record Matrix : Type 0 where
  pub size : ℕ
  pub words : List ℕ

-- how many words a row takes
abbrev pub words_a_row : ℕ → ℕ
words_a_row n = (n + 63) / 64

-- the bit at a place of a word of a row
abbrev pub bit_of : Matrix → ℕ → ℕ → ℕ → ℕ
bit_of m row word place = bit_at (slice_index m.words (row * words_a_row m.size + word)) place

-- a pair is in the set: its bit stands in row i, word j / 64, place j % 64
unfoldable pub HasPair : Matrix → ℕ → ℕ → Type 0
HasPair m i j = (i < m.size) × (j < m.size) × (bit_of m i (j / 64) (j % 64) ≡ 1)

-- the rows are whole, and each bit that stands for no pair is zero
pub record IsMatrix (m : Matrix) : Type 0 where
  pub whole : length m.words ≡ m.size * words_a_row m.size
  pub padding : (row word place : ℕ) → row < m.size → word < words_a_row m.size
      → (64 ≤ place) ⊎ (m.size ≤ 64 * word + place) → bit_of m row word place ≡ 0

-- no pair is in the set
abbrev pub HasNone : Matrix → Type 0
HasNone m = (i j : ℕ) → ¬ HasPair m i j

-- exactly the pairs of each number with itself are in the set
abbrev pub IsIdentity : Matrix → Type 0
IsIdentity m = (i j : ℕ) → HasPair m i j ↔ ((i < m.size) × (i ≡ j))

-- the set with one pair more
abbrev pub Gains : Matrix → ℕ → ℕ → Matrix → Type 0
Gains old i j new = (x y : ℕ) → HasPair new x y ↔ (HasPair old x y ⊎ ((x ≡ i) × (y ≡ j)))

-- the pairs that lead by the first set and then by the second
abbrev pub IsComposition : Matrix → Matrix → Matrix → Type 0
IsComposition a b m = (i j : ℕ) → HasPair m i j ↔ ((k : ℕ) × HasPair a i k × HasPair b k j)

-- two sets have the same pairs
abbrev pub HaveSamePairs : Matrix → Matrix → Type 0
HaveSamePairs a b = (i j : ℕ) → HasPair a i j ↔ HasPair b i j

-- a set of pairs has one form: at one size, equal sets are kept as equal words
abbrev pub SetsHaveOneForm : Type 0
SetsHaveOneForm = (a b : Matrix) → IsMatrix a → IsMatrix b → a.size ≡ b.size → HaveSamePairs a b → a ≡ b
