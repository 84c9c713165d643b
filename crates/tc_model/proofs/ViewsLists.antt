-- Lists of which each item is seen as plain data: element patterns, rules, named bodies, attributes, prefixes in scope.
use Rattle.std.proofs.Common.{◌≡◌, ℕ, zero, suc, ◌<◌, List, [], ◌∷◌, ap, sym, map, length, get_or, Some, slice_get, arith}

module _ {X Y : Type 0} (f : X → Y) where
  -- what stands at a place
  pub mapped_at : (xs : List X) (i : ℕ) (x : X) → i < length xs → x ≡ get_or xs i x → slice_get (map f xs) i ≡ Some (f x)
  mapped_at [] i x h e = absurd (omega arith)
  mapped_at (y ∷ ys) zero x h e = ap (λ z. Some (f z)) (sym e)
  mapped_at (y ∷ ys) (suc i) x h e = mapped_at ys i x (omega arith) e
