-- Rows of bits, 64 a word: a bit for each step of a path's alternatives, one behind the other.
use Rattle.std.specs.Prelude.{◌≡◌, ℕ, zero, suc, ◌+◌, ◌-◌, ◌*◌, ◌/◌, ◌%◌, ◌^◌, List, [], ◌∷◌, Bool, true, ◌&&◌, nat_eq, bit_and, bit_or, get_or, slice_set}
use Rattle.std.specs.Cmp.Lexicographic.{pointwise}
use Rattle.std.specs.Int.{bit_at}
use Rattle.tc_model.specs.Sheets.{Steps, no_step, step, Path, no_alternative, alternative}
use Rattle.tc_model.specs.PathStates.{Items, State}
use Rattle.tc_sets.specs.Numbers.{IsSet}
use Rattle.tc_rules.specs.Steps.{has_step}
use Rattle.tc_rules.specs.declared.rows.Written.{Written}

abbrev pub first_word : List ℕ → ℕ
first_word [] = 0
first_word (w ∷ ws) = w

abbrev pub after_word : List ℕ → List ℕ
after_word [] = []
after_word (w ∷ ws) = ws

-- the bits that both have
abbrev pub both_words : List ℕ → List ℕ → List ℕ
both_words [] us = []
both_words (w ∷ ws) us = bit_and w (first_word us) ∷ both_words ws (after_word us)

abbrev pub are_zero : List ℕ → Bool
are_zero [] = true
are_zero (w ∷ ws) = nat_eq w 0 && are_zero ws

-- two have the same among these bits
abbrev pub are_alike : List ℕ → List ℕ → List ℕ → Bool
are_alike [] us vs = true
are_alike (w ∷ ws) us vs = nat_eq (bit_and w (first_word us)) (bit_and w (first_word vs)) && are_alike ws (after_word us) (after_word vs)

-- how rows are compared
abbrev pub same_words : List ℕ → List ℕ → Bool
same_words = pointwise nat_eq

-- the bits of a word one place further on
abbrev pub shifted : ℕ → ℕ
shifted w = (w * 2) % 2 ^ 64

-- bits that stay, and others one place further on, where `carry` comes into the first place
abbrev pub further_words : ℕ → List ℕ → List ℕ → List ℕ
further_words carry [] ms = []
further_words carry (k ∷ ks) ms = bit_or k (bit_or (shifted (first_word ms)) carry) ∷ further_words (first_word ms / 2 ^ 63) ks (after_word ms)

-- a bit by its number
abbrev pub bit : List ℕ → ℕ → Bool
bit ws i = nat_eq (bit_at (get_or ws (i / 64) 0) (i % 64)) 1

abbrev pub with_bit : List ℕ → ℕ → List ℕ
with_bit ws i = slice_set ws (i / 64) (bit_or (get_or ws (i / 64) 0) (2 ^ (i % 64)))

-- so many values from a number on
abbrev pub span : (ℕ → Bool) → ℕ → ℕ → Items
span f at zero = []
span f at (suc n) = f at ∷ span f (suc at) n

-- the values of alternatives that end there
abbrev pub cut : (ℕ → Bool) → ℕ → List ℕ → State
cut f start [] = []
cut f start (e ∷ es) = span f start (e - start) ∷ cut f e es

abbrev pub count_steps : Steps → ℕ
count_steps no_step = 0
count_steps (step deep test when ss) = suc (count_steps ss)

abbrev pub ends_of : ℕ → Path → List ℕ
ends_of start no_alternative = []
ends_of start (alternative ss p) = (start + count_steps ss) ∷ ends_of (start + count_steps ss) p

-- how many steps there are in all, behind so many
abbrev pub total : ℕ → Path → ℕ
total start no_alternative = start
total start (alternative ss p) = total (start + count_steps ss) p

-- which steps `//` stands before, and which have one after them
abbrev pub deep_steps : Steps → Items
deep_steps no_step = []
deep_steps (step deep test when ss) = deep ∷ deep_steps ss

abbrev pub inner_steps : Steps → Items
inner_steps no_step = []
inner_steps (step deep test when ss) = has_step ss ∷ inner_steps ss

abbrev pub on_path : (Steps → Items) → Path → State
on_path f no_alternative = []
on_path f (alternative ss p) = f ss ∷ on_path f p

-- of so many bits, each bit further on is zero
abbrev pub IsPadded : ℕ → List ℕ → Type 0
IsPadded n ws = IsSet (record { size = n; words = ws })

-- a row of a path's steps, and what it says of them
pub record IsRow (p : Path) (x : State) (ws : List ℕ) : Type 0 where
  pub padded : IsPadded (total 0 p) ws
  pub state : cut (bit ws) 0 (ends_of 0 p) ≡ x

-- a row that is being written
abbrev pub IsWritten : Written → Type 0
IsWritten w = IsPadded w.len w.words.items

abbrev pub bits_of : Written → Items
bits_of w = span (bit w.words.items) 0 w.len
