-- Things numbered from 0, each at its first appearance.
use Rattle.std.specs.Prelude.{ℕ, zero, suc, ◌+◌, List, [], ◌∷◌, ◌++◌, Bool, if◌then◌else◌}
use Rattle.std.specs.List.{list_any}

-- all numbers below this one
abbrev pub numbers_below : ℕ → List ℕ
numbers_below zero = []
numbers_below (suc n) = numbers_below n ++ n ∷ []

module _ {X : Type 0} (same : X → X → Bool) where
  abbrev pub each_once_after : List X → List X → List X
  each_once_after seen [] = []
  each_once_after seen (x ∷ xs) = if list_any (same x) seen then each_once_after seen xs else (x ∷ each_once_after (x ∷ seen) xs)

  -- those of a list that are not the same as an earlier one
  abbrev pub each_once : List X → List X
  each_once xs = each_once_after [] xs

  -- how many stand before the first that is the same
  abbrev pub number_of : X → List X → ℕ
  number_of x [] = 0
  number_of x (y ∷ ys) = if same x y then 0 else (number_of x ys + 1)
