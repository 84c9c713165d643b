-- Numbers that lead to numbers: the row of a number holds those to which it leads.
use Rattle.std.specs.Borrow.{Bor}
use Rattle.std.specs.Prelude.{◌≡◌, ◌<◌, ◌↔◌, ◌⊎◌, ℕ, Bool, true, false, List, [], length, map, slice_index_or}
use Rattle.std.specs.List.{Contains}

abbrev pub rows_of : List (Bor (List ℕ)) → List (List ℕ)
rows_of rows = map (λ r. r.now) rows

abbrev pub Edge : List (List ℕ) → ℕ → ℕ → Type 0
Edge rows k j = Contains (slice_index_or rows k []) j

-- each number to which one leads has a row
abbrev pub IsGraph : List (List ℕ) → Type 0
IsGraph rows = (k j : ℕ) → Edge rows k j → j < length rows

-- one or more steps
pub data Path (rows : List (List ℕ)) : ℕ → ℕ → Type 0 where
  edge : {k j : ℕ} → Edge rows k j → Path rows k j
  further : {k j i : ℕ} → Path rows k j → Edge rows j i → Path rows k i

-- any number of steps
abbrev pub Leads : List (List ℕ) → ℕ → ℕ → Type 0
Leads rows k j = (j ≡ k) ⊎ Path rows k j

abbrev pub is_marked : List Bool → ℕ → Bool
is_marked marks j = slice_index_or marks j false

-- the numbers to which one leads are marked
pub record IsReached (rows : List (List ℕ)) (from : ℕ) (marks : List Bool) : Type 0 where
  pub size : length marks ≡ length rows
  pub exact : (j : ℕ) → (is_marked marks j ≡ true) ↔ Leads rows from j
