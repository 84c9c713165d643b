-- Sets of numbers, and the same as lists in order.
use Rattle.std.specs.Prelude.{◌≤◌, ◌↔◌, ◌/◌, ◌%◌, ℕ, List, Bool, filter, nat_eq}
use Rattle.tc_model.specs.Numbered.{numbers_below}
use Rattle.tc_sets.specs.Numbers.{Numbers, Has, bit_of}

abbrev pub is_in : Numbers → ℕ → Bool
is_in s j = nat_eq (bit_of s.words (j / 64) (j % 64)) 1

-- its numbers, in order
abbrev pub members : Numbers → List ℕ
members s = filter (is_in s) (numbers_below s.size)

-- it has those of the numbers up to one of which a fact holds
abbrev pub IsFound : (ℕ → Type 0) → ℕ → Numbers → Type 0
IsFound P n s = (k : ℕ) → Has s k ↔ ((k ≤ n) × P k)
