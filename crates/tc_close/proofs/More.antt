-- Different elements of a list are together no more than all.
use Rattle.std.proofs.Common.{◌≡◌, ◌≤◌, ℕ, zero, suc, List, [], ◌∷◌, refl, sym, ap, ◌∙◌, Some, slice_get, arith}
use Rattle.std.specs.List.{Contains, remove, sum_by}
use Rattle.std.specs.List.Sorted.{IsPermutation}
use Rattle.std.proofs.lemmas.List.Sorted.{IsPermutation-remove, sum_by-IsPermutation, Contains-permutation}
use Rattle.std.proofs.lemmas.List.Sums.{sum_by-cons}
use Rattle.std.proofs.lemmas.Option.{slice_get-get_or}
use Rattle.tc_rows.specs.Counts.{AreDifferent}

module _ {X : Type 0} (f : X → ℕ) where
  later : (x : X) (xs : List X) (y : X) → Contains xs y → Contains (x ∷ xs) y
  later x xs y (k, low, at) = (suc k, omega (arith, low), at)

  other : (x : X) (xs zs : List X) → AreDifferent (x ∷ xs) → (y : X) → Contains xs y → Contains (x ∷ zs) y → Contains zs y
  other x xs zs different y (k, low, at) (zero, l, e) =
      let there : slice_get xs k ≡ Some y = slice_get-get_or xs k y low ∙ ap Some at in
      let no : zero ≡ suc k = different zero (suc k) y (ap Some e) there in
      absurd (omega (arith, no))
  other x xs zs different y c (suc j, l, e) = (j, omega (arith, l), e)

  pub no_more : (xs ys : List X) → AreDifferent xs → ((x : X) → Contains xs x → Contains ys x) → sum_by f xs ≤ sum_by f ys
  no_more [] ys different inside = omega arith
  no_more (x ∷ xs) ys different inside =
      let (i, low, at) = inside x (zero, omega arith, refl) in
      let perm : IsPermutation ys (x ∷ remove ys i) = IsPermutation-remove ys i x low (sym at) in
      let total : sum_by f (x ∷ remove ys i) ≡ sum_by f ys = sum_by-IsPermutation f ys (x ∷ remove ys i) perm in
      let rest : sum_by f xs ≤ sum_by f (remove ys i) =
      no_more xs (remove ys i) (λ j k r p q. let e : suc j ≡ suc k = different (suc j) (suc k) r p q in omega (arith, e))
      (λ y c. other x xs (remove ys i) different y c (Contains-permutation ys (x ∷ remove ys i) y perm (inside y (later x xs y c)))) in
      omega (arith, total, rest, sum_by-cons f x xs, sum_by-cons f x (remove ys i))
