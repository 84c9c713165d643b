-- States are numbered round by round: each of them is put at the end, unless it is there.
use Rattle.std.proofs.Common.{◌≡◌, ℕ, zero, suc, List, [], ◌∷◌, ◌++◌, Bool, true, false, ◌||◌, refl, ap, sym, ◌∙◌, subst, filter, flat_map, map, if◌then◌else◌}
use Rattle.std.specs.List.{list_any}
use Rattle.tc_model.specs.Numbered.{each_once_after}
use Rattle.tc_model.specs.Letters.{Letter}
use Rattle.tc_model.specs.PathStates.{State, same_state}
use Rattle.tc_model.specs.Numberings.{one_round, rounds}
use Rattle.tc_rules.specs.Once.{put_once, put_all}
use Rattle.tc_rules.proofs.Sameness.{put_next}

module _ {X : Type 0} where
  ends_there : (xs : List X) → xs ++ [] ≡ xs
  ends_there [] = refl
  ends_there (x ∷ xs) = ap (λ w. x ∷ w) (ends_there xs)

module _ {X : Type 0} (same : X → X → Bool) where
  -- in two parts
  pub put_joined : (s xs ys : List X) → put_all same s (xs ++ ys) ≡ put_all same (put_all same s xs) ys
  put_joined s [] ys = refl
  put_joined s (x ∷ xs) ys = put_joined (put_once same s x) xs ys

  -- those that are not there come after those that are
  pub put_is : (s xs : List X) → put_all same s xs ≡ s ++ each_once_after same s xs
  put_is s [] = sym (ends_there s)
  put_is s (x ∷ xs) = put_is (put_once same s x) xs ∙ sym (put_next same s xs x)

  -- each stands there once
  abbrev pub IsOnce : List X → Type 0
  IsOnce s = put_all same [] s ≡ s

  once_put : (s : List X) (x : X) → IsOnce s → IsOnce (put_once same s x)
  once_put s x h = by (list_any (same x) s) refl
    where
      by : (b : Bool) → list_any (same x) s ≡ b → IsOnce (put_once same s x)
      by true e = subst IsOnce (sym (ap (λ (b : Bool). if b then s else (s ++ x ∷ [])) e)) h
      by false e =
          let is : put_once same s x ≡ s ++ x ∷ [] = ap (λ (b : Bool). if b then s else (s ++ x ∷ [])) e in
          ap (put_all same []) is ∙ (put_joined [] s (x ∷ []) ∙ ap (λ w. put_once same w x) h)

  pub once_put_all : (s xs : List X) → IsOnce s → IsOnce (put_all same s xs)
  once_put_all s [] h = h
  once_put_all s (x ∷ xs) h = once_put_all (put_once same s x) xs (once_put s x h)

  -- all of them are there
  abbrev pub AreThere : List X → List X → Type 0
  AreThere s [] = Unit {0}
  AreThere s (x ∷ xs) = (list_any (same x) s ≡ true) × AreThere s xs

  -- what is there is not put again
  pub put_absorbed : (s xs : List X) → AreThere s xs → put_all same s xs ≡ s
  put_absorbed s [] h = refl
  put_absorbed s (x ∷ xs) h = ap (λ (b : Bool). put_all same (if b then s else (s ++ x ∷ [])) xs) h.0 ∙ put_absorbed s xs h.1

  pub there_joined : (s xs ys : List X) → AreThere s xs → AreThere s ys → AreThere s (xs ++ ys)
  there_joined s [] ys a b = b
  there_joined s (x ∷ xs) ys a b = (a.0, there_joined s xs ys a.1 b)

  any_front : (x : X) (s t : List X) → list_any (same x) s ≡ true → list_any (same x) (s ++ t) ≡ true
  any_front x [] t e = cc
  any_front x (y ∷ s) t e = by (same x y) refl (any_front x s t)
    where
      by : (b : Bool) → same x y ≡ b → (list_any (same x) s ≡ true → list_any (same x) (s ++ t) ≡ true) → (same x y || list_any (same x) (s ++ t)) ≡ true
      by true f k = ap (λ b. b || list_any (same x) (s ++ t)) f
      by false f k = ap (λ b. b || list_any (same x) (s ++ t)) f ∙ k (sym (ap (λ b. b || list_any (same x) s) f) ∙ e)

  any_kept : (x : X) (s xs : List X) → list_any (same x) s ≡ true → list_any (same x) (put_all same s xs) ≡ true
  any_kept x s xs e = ap (list_any (same x)) (put_is s xs) ∙ any_front x s (each_once_after same s xs) e

  -- and stays there
  pub there_kept : (s xs ys : List X) → AreThere s ys → AreThere (put_all same s xs) ys
  there_kept s xs [] h = tt
  there_kept s xs (y ∷ ys) h = (any_kept y s xs h.0, there_kept s xs ys h.1)

  module _ (is_self : (x : X) → same x x ≡ true) where
    any_last : (x : X) (s : List X) → list_any (same x) (s ++ x ∷ []) ≡ true
    any_last x [] = ap (λ b. b || false) (is_self x)
    any_last x (y ∷ s) = by (same x y) (any_last x s)
      where
        by : (b : Bool) → list_any (same x) (s ++ x ∷ []) ≡ true → (b || list_any (same x) (s ++ x ∷ [])) ≡ true
        by true k = refl
        by false k = k

    put_there : (s : List X) (x : X) → list_any (same x) (put_once same s x) ≡ true
    put_there s x = by (list_any (same x) s) refl
      where
        by : (b : Bool) → list_any (same x) s ≡ b → list_any (same x) (if b then s else (s ++ x ∷ [])) ≡ true
        by true e = e
        by false e = any_last x s

    -- what was put is there
    pub put_all_there : (s xs : List X) → AreThere (put_all same s xs) xs
    put_all_there s [] = tt
    put_all_there s (x ∷ xs) = (any_kept x (put_once same s x) xs (put_there s x), put_all_there (put_once same s x) xs)

module _ (counts : State → Bool) (next : State → Letter → State) (letters : List Letter) where
  -- those to which states lead
  abbrev pub leads_of : List State → List State
  leads_of xs = filter counts (flat_map (λ x. map (next x) letters) xs)

  pub round_puts : (xs : List State) → IsOnce same_state xs → one_round counts next letters xs ≡ put_all same_state xs (leads_of xs)
  round_puts xs h = sym (put_is same_state [] (xs ++ leads_of xs)) ∙ (put_joined same_state [] xs (leads_of xs) ∙ ap (λ w. put_all same_state w (leads_of xs)) h)

  -- the round after some rounds
  pub round_after : (n : ℕ) (xs : List State) → one_round counts next letters (rounds counts next letters n xs) ≡ rounds counts next letters (suc n) xs
  round_after zero xs = refl
  round_after (suc n) xs = round_after n (one_round counts next letters xs)

  -- where a round finds nothing further, none does
  pub settled : (n : ℕ) (xs : List State) → one_round counts next letters xs ≡ xs → rounds counts next letters n xs ≡ xs
  settled zero xs e = refl
  settled (suc n) xs e = ap (rounds counts next letters n) e ∙ settled n xs e
