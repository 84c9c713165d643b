-- Names of two parts.
use Rattle.std.specs.Prelude.{◌≡◌, ℕ, List, [], ◌∷◌, Bool, false, ◌&&◌, bytes_eq}
use Rattle.std.specs.Borrow.{Bor}

abbrev pub Pair : Type 0
Pair = Bor (List ℕ) × Bor (List ℕ)

-- both parts are the same
abbrev pub same_pair : Pair → Pair → Bool
same_pair p q = bytes_eq p.0.now q.0.now && bytes_eq p.1.now q.1.now

abbrev pub Differs : Pair → Pair → Type 0
Differs p q = same_pair p q ≡ false

-- no name is the same as the one after it
abbrev pub AreApart : List Pair → Type 0
AreApart [] = Unit {0}
AreApart (p ∷ []) = Unit {0}
AreApart (p ∷ q ∷ ps) = Differs p q × AreApart (q ∷ ps)
