-- Lists of which each thing is kept once.
use Rattle.std.proofs.Common.{◌≡◌, Bool, true, false, ◌||◌, List, [], ◌∷◌, ◌++◌, refl, ap, ◌∙◌, sym, subst, if◌then◌else◌}
use Rattle.std.specs.List.{list_any}
use Rattle.std.proofs.lemmas.List.Folds.{list_any-append}
use Rattle.tc_model.specs.Numbered.{each_once_after}

or_swap : (a b c : Bool) → (a || (b || c)) ≡ (b || (a || c))
or_swap true true c = refl
or_swap true false c = refl
or_swap false true c = refl
or_swap false false c = refl

or_assoc : (a b c : Bool) → ((a || b) || c) ≡ (a || (b || c))
or_assoc true b c = refl
or_assoc false b c = refl

append_none : {X : Type 0} (xs : List X) → xs ++ [] ≡ xs
append_none [] = refl
append_none (x ∷ xs) = ap (λ w. x ∷ w) (append_none xs)

module _ {X : Type 0} (same : X → X → Bool) where
  abbrev pub is_in : X → List X → Bool
  is_in x xs = list_any (same x) xs

  -- only what is among those seen counts, not in which order
  pub same_members : (s t xs : List X) → ((y : X) → is_in y s ≡ is_in y t) → each_once_after same s xs ≡ each_once_after same t xs
  same_members s t [] h = refl
  same_members s t (x ∷ xs) h = by (is_in x s) (is_in x t) (h x) (same_members s t xs h) (same_members (x ∷ s) (x ∷ t) xs (λ y. ap (λ b. same y x || b) (h y)))
    where
      at : (c : Bool) → each_once_after same s xs ≡ each_once_after same t xs → each_once_after same (x ∷ s) xs ≡ each_once_after same (x ∷ t) xs
          → (if c then each_once_after same s xs else (x ∷ each_once_after same (x ∷ s) xs)) ≡ (if c then each_once_after same t xs else (x ∷ each_once_after same (x ∷ t) xs))
      at true f g = f
      at false f g = ap (λ w. x ∷ w) g

      by : (a b : Bool) → a ≡ b → each_once_after same s xs ≡ each_once_after same t xs → each_once_after same (x ∷ s) xs ≡ each_once_after same (x ∷ t) xs
          → (if a then each_once_after same s xs else (x ∷ each_once_after same (x ∷ s) xs)) ≡ (if b then each_once_after same t xs else (x ∷ each_once_after same (x ∷ t) xs))
      by a b e f g = subst (λ c. (if a then each_once_after same s xs else (x ∷ each_once_after same (x ∷ s) xs)) ≡ (if c then each_once_after same t xs else (x ∷ each_once_after same (x ∷ t) xs))) e (at a f g)

  pub moved : (x y : X) (s e : List X) → is_in y ((x ∷ s) ++ e) ≡ is_in y (s ++ (x ∷ e))
  moved x y s e =
      ap (λ b. same y x || b) (list_any-append (same y) s e)
      ∙ (or_swap (same y x) (is_in y s) (is_in y e) ∙ sym (list_any-append (same y) s (x ∷ e)))

  -- one list after the other
  pub once_append : (s xs ys : List X) → each_once_after same s (xs ++ ys) ≡ each_once_after same s xs ++ each_once_after same (s ++ each_once_after same s xs) ys
  once_append s [] ys = ap (λ w. each_once_after same w ys) (sym (append_none s))
  once_append s (x ∷ xs) ys = by (is_in x s) (once_append s xs ys) (once_append (x ∷ s) xs ys)
    where
      by : (b : Bool) → each_once_after same s (xs ++ ys) ≡ each_once_after same s xs ++ each_once_after same (s ++ each_once_after same s xs) ys
          → each_once_after same (x ∷ s) (xs ++ ys) ≡ each_once_after same (x ∷ s) xs ++ each_once_after same ((x ∷ s) ++ each_once_after same (x ∷ s) xs) ys
          → (if b then each_once_after same s (xs ++ ys) else (x ∷ each_once_after same (x ∷ s) (xs ++ ys)))
          ≡ (if b then each_once_after same s xs else (x ∷ each_once_after same (x ∷ s) xs))
          ++ each_once_after same (s ++ (if b then each_once_after same s xs else (x ∷ each_once_after same (x ∷ s) xs))) ys
      by true f g = f
      by false f g =
          let later = each_once_after same (x ∷ s) xs in
          ap (λ w. x ∷ w) (g ∙ ap (λ w. later ++ w) (same_members ((x ∷ s) ++ later) (s ++ (x ∷ later)) ys (λ y. moved x y s later)))
