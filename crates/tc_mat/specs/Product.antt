-- The composition of two sets of pairs, by the words of their rows.
use Rattle.std.specs.Prelude.{◌≡◌, ℕ, ◌+◌, ◌*◌, ◌/◌, ◌%◌, ◌^◌, ◌<◌, ◌⊎◌, ◌↔◌, List, slice_index}
use Rattle.std.specs.Int.{bit_at}
use Rattle.tc_mat.specs.Matrix.{words_a_row}

-- the bit at a place of a word of a row is set, in a matrix of n rows
abbrev pub IsSet : ℕ → List ℕ → ℕ → ℕ → ℕ → Type 0
IsSet n words row word place = bit_at (slice_index words (row * words_a_row n + word)) place ≡ 1

-- exactly the bits of some set are set
abbrev pub HasBits : ℕ → List ℕ → (ℕ → ℕ → ℕ → Type 0) → Type 0
HasBits n words Held =
    (row word place : ℕ) → row < n → word < words_a_row n → IsSet n words row word place ↔ Held row word place

-- exactly the bits of some set more are set
abbrev pub GainsBits : ℕ → List ℕ → List ℕ → (ℕ → ℕ → ℕ → Type 0) → Type 0
GainsBits n old new Gained =
    (row word place : ℕ) → row < n → word < words_a_row n
    → IsSet n new row word place ↔ (IsSet n old row word place ⊎ Gained row word place)

-- a bit of a row that is led to by one of the 64 numbers that a word tells
abbrev pub Told : ℕ → List ℕ → ℕ → ℕ → ℕ → ℕ → Type 0
Told n b told by word place = (t : ℕ) × (bit_at told t ≡ 1) × IsSet n b (64 * by + t) word place

-- a bit of a row of the composition by one of the 64 numbers that one word of the same row of the left tells
abbrev pub Leads : ℕ → List ℕ → List ℕ → ℕ → ℕ → ℕ → ℕ → Type 0
Leads n a b by row word place = Told n b (slice_index a (row * words_a_row n + by)) by word place

-- a word has bits for numbers below n alone
abbrev pub IsPadded : ℕ → List ℕ → Type 0
IsPadded n words =
    (row word place : ℕ) → row < n → word < words_a_row n → IsSet n words row word place
    → (place < 64) × (64 * word + place < n)

-- a word of a row that has exactly its own number
abbrev pub IsUnitWord : ℕ → ℕ → ℕ → Type 0
IsUnitWord row word v = (word ≡ row / 64 → v ≡ 2 ^ (row % 64)) × ((word ≡ row / 64 → ⊥) → v ≡ 0)

-- a row has exactly its own number
abbrev pub IsUnit : ℕ → List ℕ → ℕ → Type 0
IsUnit n words row = (word : ℕ) → word < words_a_row n → IsUnitWord row word (slice_index words (row * words_a_row n + word))
