-- One more in a list, unless it is there.
use Rattle.std.specs.Prelude.{List, [], ◌∷◌, ◌++◌, Bool, if◌then◌else◌}
use Rattle.std.specs.List.{list_any}

abbrev pub put_once : {X : Type 0} → (X → X → Bool) → List X → X → List X
put_once same s x = if list_any (same x) s then s else (s ++ x ∷ [])

-- one after another
abbrev pub put_all : {X : Type 0} → (X → X → Bool) → List X → List X → List X
put_all same s [] = s
put_all same s (x ∷ xs) = put_all same (put_once same s x) xs
