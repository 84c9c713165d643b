-- Sets of numbers below a size, kept as bits.
use Rattle.std.specs.Prelude.{◌≡◌, ℕ, ◌+◌, ◌*◌, ◌/◌, ◌%◌, ◌≤◌, ◌⊎◌, ◌↔◌, List, length, slice_index}
use Rattle.std.specs.Int.{bit_at}

-- a size, and words of 64 bits
pub record Numbers : Type 0 where
  pub size : ℕ
  pub words : List ℕ

-- how many words numbers below n take
abbrev pub words_for : ℕ → ℕ
words_for n = (n + 63) / 64

-- the bit at a place of a word
abbrev pub bit_of : List ℕ → ℕ → ℕ → ℕ
bit_of words word place = bit_at (slice_index words word) place

-- a number is in the set: its bit stands in word j / 64, place j % 64
abbrev pub Has : Numbers → ℕ → Type 0
Has s j = bit_of s.words (j / 64) (j % 64) ≡ 1

-- the words are whole, and each bit that stands for no number below the size is zero
pub record IsSet (s : Numbers) : Type 0 where
  pub whole : length s.words ≡ words_for s.size
  pub padding : (word place : ℕ) → (64 ≤ place) ⊎ (s.size ≤ 64 * word + place) → bit_of s.words word place ≡ 0

-- no number is in the set
abbrev pub HasNone : Numbers → Type 0
HasNone s = (j : ℕ) → ¬ Has s j

-- no number is in both sets
abbrev pub AreApart : Numbers → Numbers → Type 0
AreApart s t = (j : ℕ) → Has s j → ¬ Has t j

-- two sets have the same numbers
abbrev pub HaveSameNumbers : Numbers → Numbers → Type 0
HaveSameNumbers s t = (j : ℕ) → Has s j ↔ Has t j

-- a set has one form: at one size, equal sets are kept as equal words
abbrev pub SetsHaveOneForm : Type 0
SetsHaveOneForm = (s t : Numbers) → IsSet s → IsSet t → s.size ≡ t.size → HaveSameNumbers s t → s ≡ t
