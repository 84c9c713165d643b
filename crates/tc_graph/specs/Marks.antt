-- How marks grow while numbers are looked at.
use Rattle.std.specs.Prelude.{◌≡◌, ◌⊎◌, ◌+◌, ℕ, Bool, true, List, length}
use Rattle.std.specs.List.{Contains, sum_by}
use Rattle.std.specs.Prelude.{if◌then◌else◌}
use Rattle.tc_graph.specs.Graph.{is_marked}

-- how many aren't marked
abbrev pub unmarked : List Bool → ℕ
unmarked marks = sum_by (λ m. if m then 0 else 1) marks

-- a row is marked; what wasn't waits to be looked at
pub record Marks (row : List ℕ) (old new : List Bool) (before after : List ℕ) : Type 0 where
  pub size : length new ≡ length old
  pub count : unmarked new + length after ≡ unmarked old + length before
  pub kept : (j : ℕ) → is_marked old j ≡ true → is_marked new j ≡ true
  pub marked : (j : ℕ) → Contains row j → is_marked new j ≡ true
  pub only : (j : ℕ) → is_marked new j ≡ true → (is_marked old j ≡ true) ⊎ (Contains row j × Contains after j)
  pub waiting : (j : ℕ) → Contains before j → Contains after j
  pub from : (j : ℕ) → Contains after j → Contains before j ⊎ Contains row j
