-- What is worked out of numbers one after another, each put at the end.
use Rattle.std.proofs.Common.{◌≡◌, ◌+◌, ◌++◌, ◌∷◌, [], ℕ, zero, suc, List, sym, ap, ◌∙◌, subst, map, flat_map, take, length, length-append, Option, None, Some, slice_get, arith}
use Rattle.std.proofs.lemmas.List.{length-map, map-append}
use Rattle.std.proofs.lemmas.Grind.{flat_map-append}
use Rattle.std.specs.Option.{MatchOption}
use Rattle.tc_model.specs.Numbered.{numbers_below}
use Rattle.tc_rules.proofs.Pieces.{length_below}

one_more : (n : ℕ) → n + 1 ≡ suc n
one_more n = omega arith

module _ {X Y : Type 0} (f : X → Y) where
  take_more : (xs : List X) (n : ℕ) (x : X) → slice_get xs n ≡ Some x → take (suc n) xs ≡ take n xs ++ x ∷ []
  take_more [] n x e = absurd (cc)
  take_more (y ∷ ys) zero x e = cc
  take_more (y ∷ ys) (suc n) x e = ap (λ zs. y ∷ zs) (take_more ys n x e)

  pub pushed_taken : (xs : List X) (n : ℕ) (x : X) (old new : List Y) (y : Y) → slice_get xs n ≡ Some x → old ≡ map f (take n xs) → new ≡ old ++ y ∷ [] → y ≡ f x → new ≡ map f (take (n + 1) xs)
  pushed_taken xs n x old new y at before push same =
      push ∙ ((λ i. before i ++ same i ∷ []) ∙ (sym (map-append f (take n xs) (x ∷ [])) ∙ (ap (map f) (sym (take_more xs n x at)) ∙ ap (λ k. map f (take k xs)) (sym (one_more n)))))

module _ {Y : Type 0} (f : ℕ → Y) where
  pub pushed_below : (n : ℕ) (old new : List Y) (y : Y) → old ≡ map f (numbers_below n) → new ≡ old ++ y ∷ [] → y ≡ f n → new ≡ map f (numbers_below (n + 1))
  pushed_below n old new y before push same =
      push ∙ ((λ i. before i ++ same i ∷ []) ∙ (sym (map-append f (numbers_below n) (n ∷ [])) ∙ ap (λ k. map f (numbers_below k)) (sym (one_more n))))

  pub below_count : (n : ℕ) → length (map f (numbers_below n)) ≡ n
  below_count n = length-map (numbers_below n) f ∙ length_below n

-- how long the pieces are of one more
pub taken_length : {X Y : Type 0} (f : X → List Y) (xs : List X) (n : ℕ) (x : X) → slice_get xs n ≡ Some x → length (flat_map f (take (n + 1) xs)) ≡ length (flat_map f (take n xs)) + length (f x)
taken_length f xs n x at =
    let more : flat_map f (take (n + 1) xs) ≡ flat_map f (take n xs) ++ flat_map f (x ∷ []) =
    ap (λ k. flat_map f (take k xs)) (one_more n) ∙ (ap (flat_map f) (take_more f xs n x at) ∙ flat_map-append f (take n xs) (x ∷ [])) in
    let a = ap length more in
    let b = length-append (flat_map f (take n xs)) (flat_map f (x ∷ [])) in
    let c : length (f x ++ []) ≡ length (f x) + 0 = length-append (f x) [] in
    omega (arith, a, b, c)

-- what holds of an option that is nothing, and of one that is something
pub none_of : {A : Type 0} (N : Type 0) (P : A → Type 0) (o : Option A) → MatchOption o N P → o ≡ None → N
none_of N P o m e = subst (λ w. MatchOption w N P) e m

pub some_of : {A : Type 0} (N : Type 0) (P : A → Type 0) (o : Option A) (a : A) → MatchOption o N P → o ≡ Some a → P a
some_of N P o a m e = subst (λ w. MatchOption w N P) e m
