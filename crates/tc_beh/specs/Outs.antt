-- The sets of pairs that are held, as rows have them, and what a row adds to them.
use Rattle.std.specs.Prelude.{◌<◌, ◌≤◌, ℕ, List, length, map}
use Rattle.std.specs.List.{Contains}
use Rattle.tc_mat.specs.Matrix.{Matrix}
use Rattle.tc_mat.specs.Held.{Held}
use Rattle.tc_beh.specs.Places.{pairs_of}
use Rattle.tc_beh.specs.Held.{Extends, set_at}

-- all that is held, by number
abbrev pub sets_of : List Matrix → List (List (ℕ × ℕ))
sets_of held = map pairs_of held

-- some entry of these isn't held
abbrev pub IsLeftOut : Held → List (List (ℕ × ℕ)) → Type 0
IsLeftOut h entries = (pairs : List (ℕ × ℕ)) × Contains entries pairs × ¬ Contains (sets_of h.matrices) pairs

-- what is held is held on, and what comes on are entries of these
pub record GrowsBy (old new : Held) (entries : List (List (ℕ × ℕ))) : Type 0 where
  pub held : Extends old new
  pub found : (k : ℕ) → length old.matrices ≤ k → k < length new.matrices → Contains entries (pairs_of (set_at new k))
