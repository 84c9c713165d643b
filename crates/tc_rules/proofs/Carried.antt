-- What is reached stays so where each is seen as another: those that are alike, those that count and where each leads are the same.
use Rattle.std.proofs.Common.{◌≡◌, ℕ, zero, suc, ◌<◌, List, [], ◌∷◌, ◌++◌, Bool, true, false, ◌||◌, refl, ap, sym, ◌∙◌, subst, map, filter, flat_map, length, if◌then◌else◌}
use Rattle.std.specs.List.{list_any}
use Rattle.std.proofs.lemmas.List.{length-map, map-append}
use Rattle.tc_alpha.proofs.Members.{Every, every_append}
use Rattle.tc_rules.specs.Once.{put_once, put_all}
use Rattle.tc_rules.specs.Reached.{leads_of, one_round, rounds, AreReached}

module _ {X Y : Type 0} (same : X → X → Bool) (alike : Y → Y → Bool) (f : X → Y) (Good : X → Type 0)
    (same_is : (x y : X) → Good x → Good y → same x y ≡ alike (f x) (f y)) where
  pub any_carried : (x : X) (s : List X) → Good x → Every Good s → list_any (same x) s ≡ list_any (alike (f x)) (map f s)
  any_carried x [] g h = refl
  any_carried x (y ∷ s) g h = ap (λ b. b || list_any (same x) s) (same_is x y g h.0) ∙ ap (λ b. alike (f x) (f y) || b) (any_carried x s g h.1)

  pub once_carried : (s : List X) (x : X) → Every Good s → Good x → map f (put_once same s x) ≡ put_once alike (map f s) (f x)
  once_carried s x h g = by (list_any (same x) s) (any_carried x s g h)
    where
      by : (b : Bool) → b ≡ list_any (alike (f x)) (map f s) → map f (if b then s else (s ++ x ∷ [])) ≡ put_once alike (map f s) (f x)
      by true e = ap (λ (b : Bool). if b then (map f s) else (map f s ++ f x ∷ [])) e
      by false e = map-append f s (x ∷ []) ∙ ap (λ (b : Bool). if b then (map f s) else (map f s ++ f x ∷ [])) e

  pub once_good : (s : List X) (x : X) → Every Good s → Good x → Every Good (put_once same s x)
  once_good s x h g = by (list_any (same x) s)
    where
      by : (b : Bool) → Every Good (if b then s else (s ++ x ∷ []))
      by true = h
      by false = every_append Good s (x ∷ []) h (g, tt)

  all_carried : (s xs : List X) → Every Good s → Every Good xs → map f (put_all same s xs) ≡ put_all alike (map f s) (map f xs)
  all_carried s [] h k = refl
  all_carried s (x ∷ xs) h k = all_carried (put_once same s x) xs (once_good s x h k.0) k.1 ∙ ap (λ w. put_all alike w (map f xs)) (once_carried s x h k.0)

  all_good : (s xs : List X) → Every Good s → Every Good xs → Every Good (put_all same s xs)
  all_good s [] h k = h
  all_good s (x ∷ xs) h k = all_good (put_once same s x) xs (once_good s x h k.0) k.1

  module _ (counts : X → Bool) (counts_as : Y → Bool) (lead : X → List X) (leads_as : Y → List Y)
      (counted : (x : X) → Good x → counts x ≡ counts_as (f x)) (led : (x : X) → Good x → map f (lead x) ≡ leads_as (f x)) (good : (x : X) → Good x → Every Good (lead x)) where
    filter_carried : (xs : List X) → Every Good xs → map f (filter counts xs) ≡ filter counts_as (map f xs)
    filter_carried [] h = refl
    filter_carried (x ∷ xs) h = by (counts x) (counted x h.0) (filter_carried xs h.1)
      where
        by : (b : Bool) → b ≡ counts_as (f x) → map f (filter counts xs) ≡ filter counts_as (map f xs) → map f (if b then (x ∷ filter counts xs) else filter counts xs) ≡ filter counts_as (map f (x ∷ xs))
        by true e k = ap (λ w. f x ∷ w) k ∙ ap (λ (b : Bool). if b then (f x ∷ filter counts_as (map f xs)) else filter counts_as (map f xs)) e
        by false e k = k ∙ ap (λ (b : Bool). if b then (f x ∷ filter counts_as (map f xs)) else filter counts_as (map f xs)) e

    filter_good : (xs : List X) → Every Good xs → Every Good (filter counts xs)
    filter_good [] h = tt
    filter_good (x ∷ xs) h = by (counts x) (filter_good xs h.1)
      where
        by : (b : Bool) → Every Good (filter counts xs) → Every Good (if b then (x ∷ filter counts xs) else filter counts xs)
        by true k = (h.0, k)
        by false k = k

    leads_carried : (xs : List X) → Every Good xs → map f (flat_map lead xs) ≡ flat_map leads_as (map f xs)
    leads_carried [] h = refl
    leads_carried (x ∷ xs) h = map-append f (lead x) (flat_map lead xs) ∙ (ap (λ w. w ++ map f (flat_map lead xs)) (led x h.0) ∙ ap (λ w. leads_as (f x) ++ w) (leads_carried xs h.1))

    leads_good : (xs : List X) → Every Good xs → Every Good (flat_map lead xs)
    leads_good [] h = tt
    leads_good (x ∷ xs) h = every_append Good (lead x) (flat_map lead xs) (good x h.0) (leads_good xs h.1)

    round_carried : (xs : List X) → Every Good xs → map f (one_round same counts lead xs) ≡ one_round alike counts_as leads_as (map f xs)
    round_carried xs h =
        let leads = leads_good xs h in
        all_carried xs (leads_of same counts lead xs) h (filter_good (flat_map lead xs) leads)
        ∙ ap (put_all alike (map f xs)) (filter_carried (flat_map lead xs) leads ∙ ap (filter counts_as) (leads_carried xs h))

    round_good : (xs : List X) → Every Good xs → Every Good (one_round same counts lead xs)
    round_good xs h = all_good xs (leads_of same counts lead xs) h (filter_good (flat_map lead xs) (leads_good xs h))

    rounds_carried : (m : ℕ) (xs : List X) → Every Good xs → map f (rounds same counts lead m xs) ≡ rounds alike counts_as leads_as m (map f xs)
    rounds_carried zero xs h = refl
    rounds_carried (suc m) xs h = rounds_carried m (one_round same counts lead xs) (round_good xs h) ∙ ap (rounds alike counts_as leads_as m) (round_carried xs h)

    rounds_good : (m : ℕ) (xs : List X) → Every Good xs → Every Good (rounds same counts lead m xs)
    rounds_good zero xs h = h
    rounds_good (suc m) xs h = rounds_good m (one_round same counts lead xs) (round_good xs h)

    module _ (first : X) (begun : Good first) where
      start_good : Every Good (filter counts (first ∷ []))
      start_good = filter_good (first ∷ []) (begun, tt)

      pub reached_good : (xs : List X) → AreReached same counts lead first xs → Every Good xs
      reached_good xs h = subst (Every Good) (sym h.found.1) (rounds_good h.found.0 (filter counts (first ∷ [])) start_good)

      rounds_from : (m : ℕ) → map f (rounds same counts lead m (filter counts (first ∷ []))) ≡ rounds alike counts_as leads_as m (filter counts_as (f first ∷ []))
      rounds_from m = rounds_carried m (filter counts (first ∷ [])) start_good ∙ ap (rounds alike counts_as leads_as m) (filter_carried (first ∷ []) (begun, tt))

      pub reached_carried : (xs : List X) → AreReached same counts lead first xs → AreReached alike counts_as leads_as (f first) (map f xs)
      reached_carried xs h = record {
        found = (h.found.0, ap (map f) h.found.1 ∙ rounds_from h.found.0);
        all = sym (round_carried xs (reached_good xs h)) ∙ ap (map f) h.all;
      }

      pub many_carried : (m most : ℕ) → most < length (rounds same counts lead m (filter counts (first ∷ []))) → most < length (rounds alike counts_as leads_as m (filter counts_as (f first ∷ [])))
      many_carried m most h =
          subst (λ n. most < n) (sym (length-map (rounds same counts lead m (filter counts (first ∷ []))) f) ∙ ap length (rounds_from m)) h
