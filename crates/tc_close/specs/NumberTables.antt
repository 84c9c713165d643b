-- Pairs of numbers, each with a number, that stand at places.
use Rattle.std.specs.Prelude.{◌≡◌, ◌⊎◌, ℕ, List, Option, Some}
use Rattle.std.specs.List.{Contains}

abbrev pub numbered : ℕ → ℕ → ℕ → Option (ℕ × ℕ × ℕ)
numbered i j n = Some (i, j, n)

abbrev pub HasNumber : List (Option (ℕ × ℕ × ℕ)) → ℕ → ℕ → ℕ → Type 0
HasNumber places i j n = Contains places (numbered i j n)

-- whatever its number is
abbrev pub HasPair : List (Option (ℕ × ℕ × ℕ)) → ℕ → ℕ → Type 0
HasPair places i j = (n : ℕ) × HasNumber places i j n

-- at most this pair with its number comes on
abbrev pub ComesOn : ℕ → ℕ → ℕ → List (Option (ℕ × ℕ × ℕ)) → List (Option (ℕ × ℕ × ℕ)) → Type 0
ComesOn a b m old new = (i j n : ℕ) → HasNumber new i j n → HasNumber old i j n ⊎ ((i ≡ a) × (j ≡ b) × (n ≡ m))
