-- Sets of pairs of states of the output: what is put out leads the one to the other.
-- They are strictly ascending lists, so that different sets are different lists.
-- Each set is an element of the output's transition monoid.
use Rattle.std.specs.Prelude.{◌≡◌, ◌<◌, ◌↔◌, ℕ, List, Bool, true, false}
use Rattle.std.specs.List.{Contains}
use Rattle.std.specs.List.Sorted.{IsStrictlySortedBy}
use Rattle.std.specs.declared.cmp.Ordering.{Ordering}
use Rattle.std.specs.Ordering.{nat_cmp, ordering_then}

abbrev pub PairSet : Type 1
PairSet = ℕ → ℕ → Type 0

abbrev pub HaveSamePairs : PairSet → PairSet → Type 0
HaveSamePairs r s = (i j : ℕ) → r i j ↔ s i j

-- each of so many states with itself: what nothing leads
abbrev pub identity : ℕ → PairSet
identity n i j = (i < n) × (i ≡ j)

-- by the first and then by the second
abbrev pub product : PairSet → PairSet → PairSet
product r s i j = (l : ℕ) × r i l × s l j

abbrev pub chosen : Bool → PairSet → PairSet → PairSet
chosen true r s = r
chosen false r s = s

-- a set as a list: by the first number, and then by the second
abbrev pub pair_cmp : (ℕ × ℕ) → (ℕ × ℕ) → Ordering
pair_cmp a b = ordering_then (nat_cmp a.0 b.0) (nat_cmp a.1 b.1)

abbrev pub listed : List (ℕ × ℕ) → PairSet
listed pairs i j = Contains pairs (i, j)

-- the list ascends strictly, and its numbers are those of so many states
pub record IsPairs (n : ℕ) (pairs : List (ℕ × ℕ)) : Type 0 where
  pub ascend : IsStrictlySortedBy pair_cmp pairs
  pub within : (i j : ℕ) → Contains pairs (i, j) → (i < n) × (j < n)
