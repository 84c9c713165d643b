-- Lists are written and read one by one.
use Rattle.std.proofs.Common.{◌≡◌, ℕ, zero, suc, ◌+◌, ◌<◌, List, [], ◌∷◌, ◌++◌, Bool, false, refl, ap, sym, ◌∙◌, map, length, get_or, drop, append_assoc, add-one, Some, slice_get, arith}
use Rattle.tc_rules.specs.Steps as v

module _ {X : Type 0} where
  -- one goes from what is left to what was written
  pub one_more : (all old now left rest : List X) (x : X) → now ≡ old ++ x ∷ [] → left ≡ x ∷ rest → all ≡ old ++ left → all ≡ now ++ rest
  one_more all old now left rest x put is k =
      k ∙ (ap (λ w. old ++ w) is ∙ (sym (append_assoc old (x ∷ []) rest) ∙ ap (λ w. w ++ rest) (sym put)))

  pub map_push : {Y : Type 0} (f : Y → X) (ys : List Y) (y : Y) → map f (ys ++ y ∷ []) ≡ map f ys ++ f y ∷ []
  map_push f [] y = refl
  map_push f (z ∷ ys) y = ap (λ w. f z ∷ w) (map_push f ys y)

  drop_here : (xs : List X) (i : ℕ) (x : X) → slice_get xs i ≡ Some x → drop i xs ≡ x ∷ drop (suc i) xs
  drop_here [] i x e = cc
  drop_here (y ∷ xs) zero x e = cc
  drop_here (y ∷ xs) (suc i) x e = drop_here xs i x e

  pub drop_at : (xs : List X) (i : ℕ) (x : X) → slice_get xs i ≡ Some x → drop i xs ≡ x ∷ drop (i + 1) xs
  drop_at xs i x e = rw add-one (drop_here xs i x e)

  nothing_after : (xs : List X) → xs ++ [] ≡ xs
  nothing_after [] = refl
  nothing_after (x ∷ xs) = ap (λ w. x ∷ w) (nothing_after xs)

  -- nothing is written yet, and nothing is left
  pub begun : (all old : List X) → old ≡ [] → all ≡ old ++ all
  begun all old is = sym (ap (λ w. w ++ all) is)

  pub ended : (all old rest : List X) → rest ≡ [] → all ≡ old ++ rest → old ≡ all
  ended all old rest is k = sym (k ∙ (ap (λ w. old ++ w) is ∙ nothing_after old))

-- what stands at a place
pub element : {X : Type 0} (xs : List X) (i : ℕ) → i < length xs → (x : X) × (x ≡ get_or xs i x)
element [] i h = absurd (omega arith)
element (x ∷ xs) zero h = (x, refl)
element (x ∷ xs) (suc i) h = element xs i (omega arith)

pub no_end : (row : List (List Bool)) → v.some_ends row [] ≡ false
no_end [] = refl
no_end (items ∷ row) = refl
