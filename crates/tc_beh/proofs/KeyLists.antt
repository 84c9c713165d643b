-- Lists of truth values, and places at which they stand.
use Rattle.std.proofs.Common.{◌≡◌, append_assoc, ℕ, zero, suc, List, [], ◌∷◌, ◌++◌, Bool, true, false, ◌&&◌, refl, ap, sym, ◌∙◌, ◌⊎◌, inl, inr, map, length, Some, slice_get}
use Rattle.std.proofs.lemmas.Bool.{true≢false}
use Rattle.std.proofs.lemmas.Option.{same_Some}
use Rattle.std.specs.Bool.{beq}
use Rattle.std.specs.Cmp.Lexicographic.{pointwise}
use Rattle.tc_alpha.proofs.Members.{Every}

beq_exact : (a b : Bool) → beq a b ≡ true → a ≡ b
beq_exact true true e = refl
beq_exact true false e = absurd (true≢false (sym e))
beq_exact false true e = absurd (true≢false (sym e))
beq_exact false false e = refl

beq_itself : (a : Bool) → beq a a ≡ true
beq_itself true = refl
beq_itself false = refl

and_left : (a b : Bool) → (a && b) ≡ true → a ≡ true
and_left true b e = refl
and_left false b e = absurd (true≢false (sym e))

and_right : (a b : Bool) → (a && b) ≡ true → b ≡ true
and_right true b e = e
and_right false b e = absurd (true≢false (sym e))

pub bits_exact : (xs ys : List Bool) → pointwise beq xs ys ≡ true → xs ≡ ys
bits_exact [] [] e = refl
bits_exact [] (y ∷ ys) e = absurd (true≢false (sym e))
bits_exact (x ∷ xs) [] e = absurd (true≢false (sym e))
bits_exact (x ∷ xs) (y ∷ ys) e =
    let a = beq_exact x y (and_left (beq x y) (pointwise beq xs ys) e) in
    let b = bits_exact xs ys (and_right (beq x y) (pointwise beq xs ys) e) in
    λ i. a i ∷ b i

pub bits_itself : (xs : List Bool) → pointwise beq xs xs ≡ true
bits_itself [] = refl
bits_itself (x ∷ xs) = ap (λ b. b && pointwise beq xs xs) (beq_itself x) ∙ bits_itself xs

pub pushed_at : {X : Type 0} (xs : List X) (x : X) (i : ℕ) (y : X) → slice_get (xs ++ x ∷ []) i ≡ Some y → (slice_get xs i ≡ Some y) ⊎ ((i ≡ length xs) × (x ≡ y))
pushed_at [] x zero y e = inr (refl, same_Some x y e)
pushed_at [] x (suc i) y e = absurd (cc)
pushed_at (z ∷ xs) x zero y e = inl e
pushed_at (z ∷ xs) x (suc i) y e = elim (pushed_at xs x i y e) [ inl a ↦ inl a | inr (place, b) ↦ inr (ap suc place, b) ]

-- lists that are made alike
pub map_same : {X : Type 0} (f g : X → Bool) (xs : List X) → Every (λ x. f x ≡ g x) xs → map f xs ≡ map g xs
map_same f g [] h = refl
map_same f g (x ∷ xs) h = let a = h.0 in let b = map_same f g xs h.1 in λ i. a i ∷ b i

pub same_map : {X : Type 0} (f g : X → Bool) (xs : List X) → map f xs ≡ map g xs → Every (λ x. f x ≡ g x) xs
same_map f g [] e = tt
same_map f g (x ∷ xs) e = (first_same e, same_map f g xs (rest_same e))
  where
    first_same : {a b : Bool} {us vs : List Bool} → a ∷ us ≡ b ∷ vs → a ≡ b
    first_same e = cc

    rest_same : {a b : Bool} {us vs : List Bool} → a ∷ us ≡ b ∷ vs → us ≡ vs
    rest_same e = cc

pub two_same : {X : Type 0} (f g : X → Bool) (xs : List X) (us vs : List Bool) → map f xs ++ us ≡ map g xs ++ vs → (map f xs ≡ map g xs) × (us ≡ vs)
two_same f g [] us vs e = (refl, e)
two_same f g (x ∷ xs) us vs e =
    let (a, b) = parts e in
    let (c, d) = two_same f g xs us vs b in
    ((λ i. a i ∷ c i), d)
  where
    parts : {a b : Bool} {us vs : List Bool} → a ∷ us ≡ b ∷ vs → (a ≡ b) × (us ≡ vs)
    parts e = (cc, cc)

-- three parts, one after the other
pub three_put : (none xs ys zs a b c : List Bool) → none ≡ [] → a ≡ none ++ xs → b ≡ a ++ ys → c ≡ b ++ zs → c ≡ xs ++ (ys ++ zs)
three_put none xs ys zs a b c start e f g = g ∙ (ap (λ l. l ++ zs) (f ∙ ap (λ l. l ++ ys) (e ∙ ap (λ l. l ++ xs) start)) ∙ append_assoc xs ys zs)
