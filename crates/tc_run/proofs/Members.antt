-- An element at a place of a list is one of its elements.
use Rattle.std.proofs.Common.{◌≡◌, inl, inr, ℕ, zero, suc, List, [], ◌∷◌, Some, slice_get}
use Rattle.std.proofs.lemmas.Option.{same_Some}
use Rattle.tc_alpha.proofs.Members.{Has}

pub has_got : {X : Type 0} (xs : List X) (i : ℕ) (x : X) → slice_get xs i ≡ Some x → Has xs x
has_got [] i x e = absurd (cc)
has_got (y ∷ xs) zero x e = inl (same_Some _ _ e)
has_got (y ∷ xs) (suc i) x e = inr (has_got xs i x e)
