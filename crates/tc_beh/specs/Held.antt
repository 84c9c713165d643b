-- How the sets of pairs that are held grow, and what stands in rows over them.
use Rattle.std.specs.Prelude.{◌≡◌, ◌<◌, ◌≤◌, ◌+◌, ◌⊎◌, ◌++◌, ℕ, List, length, get_or}
use Rattle.tc_mat.specs.Matrix.{Matrix, IsComposition, IsMatrix}
use Rattle.tc_mat.specs.Held.{Held, IsHeld}
use Rattle.tc_beh.specs.Places.{no_matrix}

-- what is held is held on, under its number
pub record Extends (old new : Held) : Type 0 where
  pub size : new.size ≡ old.size
  pub more : List Matrix
  pub all : new.matrices ≡ old.matrices ++ more

-- a number is that of a set that was held, and nothing changes, or that of the one set that comes on
abbrev pub GrowsAt : Held → Held → ℕ → Type 0
GrowsAt old new k = ((k < length old.matrices) × (new ≡ old)) ⊎ ((k ≡ length old.matrices) × (length new.matrices ≡ length old.matrices + 1))

-- of so many numbers those that come on are each there, in the order of their numbers
pub record AreFirstFound (old new : ℕ) (numbers : ℕ → ℕ) (count : ℕ) : Type 0 where
  pub each : (k : ℕ) → old ≤ k → k < new → (p : ℕ) × (p < count) × (numbers p ≡ k)
  pub order : (k p : ℕ) → old ≤ k → p < count → k < numbers p → (q : ℕ) × (q < p) × (numbers q ≡ k)

-- what is held comes to hold the sets of these numbers and no others, in their order
pub record Grows (old new : Held) (numbers : ℕ → ℕ) (count : ℕ) : Type 0 where
  pub held : Extends old new
  pub low : (p : ℕ) → p < count → numbers p < length new.matrices
  pub found : AreFirstFound (length old.matrices) (length new.matrices) numbers count

-- the set of a number
abbrev pub set_at : Held → ℕ → Matrix
set_at h k = get_or h.matrices k no_matrix

-- a set of the size that isn't held, and leads by the one and then by the other
abbrev pub IsNew : Held → Matrix → Matrix → Type 0
IsNew h a b = (m : Matrix) × (m.size ≡ h.size) × IsMatrix m × IsComposition a b m × ¬ IsHeld h m

-- what comes on leads by the one and then by the other set of some place
abbrev pub AreProducts : Held → Held → (ℕ → ℕ) → (ℕ → ℕ) → ℕ → Type 0
AreProducts old new first second count =
    (k : ℕ) → length old.matrices ≤ k → k < length new.matrices → (i : ℕ) × (i < count) × IsComposition (set_at old (first i)) (set_at old (second i)) (set_at new k)
