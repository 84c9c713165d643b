-- What loops keep that search a list: for one that is true or false, or for the first that is the same.
use Rattle.std.proofs.Common.{◌≡◌, ℕ, ◌+◌, ◌<◌, ◌≤◌, List, Bool, true, false, ◌&&◌, ◌||◌, ap, sym, ◌∙◌, map, length, get_or, drop, refl, arith, Bor, Option, Some, None, option_map, slice_get, if◌then◌else◌}
use Rattle.std.proofs.lemmas.List.{drop_all, drop_more}
use Rattle.std.proofs.lemmas.Option.{slice_get_past, slice_get_read}
use Rattle.std.specs.Slice.{IsItemAt}
use Rattle.tc_model.specs.Numbered.{number_of}

module _ (all now rest b : Bool) (k : all ≡ now) where
  pub or_goes : now ≡ (b || rest) → b ≡ false → all ≡ rest
  or_goes here e = k ∙ (here ∙ ap (λ w. w || rest) e)

  pub or_found : now ≡ (b || rest) → b ≡ true → true ≡ all
  or_found here e = sym (k ∙ (here ∙ ap (λ w. w || rest) e))

  pub and_goes : now ≡ (b && rest) → b ≡ true → all ≡ rest
  and_goes here e = k ∙ (here ∙ ap (λ w. w && rest) e)

  pub and_found : now ≡ (b && rest) → b ≡ false → false ≡ all
  and_found here e = sym (k ∙ (here ∙ ap (λ w. w && rest) e))

module _ {X Y : Type 0} (f : Y → X) (same : X → X → Bool) (x : X) (all : ℕ) (ys : List Y) (i : ℕ) (k : all ≡ number_of same x (map f (drop i ys)) + i) where
  module _ (d : Y) (b : Bool) (l : i < length ys) (is : b ≡ same x (f (get_or ys i d))) where
    here : all ≡ (if b then 0 else (number_of same x (map f (drop (i + 1) ys)) + 1)) + i
    here =
        k
        ∙ (ap (λ (w : List Y). number_of same x (map f w) + i) (drop_more ys i d l)
        ∙ ap (λ (c : Bool). (if c then 0 else (number_of same x (map f (drop (i + 1) ys)) + 1)) + i) (sym is))

    pub number_goes : b ≡ false → all ≡ number_of same x (map f (drop (i + 1) ys)) + (i + 1)
    number_goes e =
        let on : all ≡ (number_of same x (map f (drop (i + 1) ys)) + 1) + i = here ∙ ap (λ (c : Bool). (if c then 0 else (number_of same x (map f (drop (i + 1) ys)) + 1)) + i) e in
        omega (arith, on)

    pub number_found : b ≡ true → i ≡ all
    number_found e =
        let on : all ≡ 0 + i = here ∙ ap (λ (c : Bool). (if c then 0 else (number_of same x (map f (drop (i + 1) ys)) + 1)) + i) e in
        omega (arith, on)

  pub number_past : (n : ℕ) → length ys ≤ i → i ≡ n → n ≡ all
  number_past n l e =
      let on : all ≡ 0 + i = k ∙ ap (λ (w : List Y). number_of same x (map f w) + i) (drop_all i ys l) in
      omega (arith, on, e)

-- what a place of a list is asked for
pub looked : {X : Type 0} (xs ys : List X) (i : ℕ) (r : Option (Bor X)) → ys ≡ xs → IsItemAt ys i r → slice_get xs i ≡ option_map (λ (b : Bor X). b.now) r
looked xs ys i None same h = sym (ap (λ w. slice_get w i) same) ∙ slice_get_past ys i h.3
looked xs ys i (Some b) same h = sym (ap (λ w. slice_get w i) same) ∙ slice_get_read ys (length ys) i b.now refl h.3.0 h.1
