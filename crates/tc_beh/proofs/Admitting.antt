-- Whether some flagged number passes a test.
use Rattle.std.proofs.Common.{◌≡◌, ◌<◌, ◌≤◌, ◌+◌, ◌∷◌, [], ℕ, zero, suc, List, length, get_or, Bool, true, false, subst, ap, ◌∙◌, refl, arith}
use Rattle.std.specs.List.{list_any}
use Rattle.std.proofs.lemmas.List.Folds.{list_any_at, list_any_none}
use Rattle.std.proofs.lemmas.List.Elements.{Contains-get_or}
use Rattle.tc_alpha.proofs.Members.{Has, has_from_contains, contains_from_has}
use Rattle.tc_beh.specs.Rooms.{flagged}
use Rattle.tc_beh.proofs.RoomRows.{flagged_at, at_flagged}

one_inside : (vs : List ℕ) (i : ℕ) → get_or vs i 0 ≡ 1 → i < length vs
one_inside [] i e = absurd (omega (arith, e))
one_inside (v ∷ vs) zero e = omega arith
one_inside (v ∷ vs) (suc i) e = let low = one_inside vs i e in omega (arith, low)

module _ (f : ℕ → Bool) (vs : List ℕ) where
  pub some_passes : (n : ℕ) → get_or vs n 0 ≡ 1 → f (n + 1) ≡ true → list_any f (flagged 1 vs) ≡ true
  some_passes n one is =
      let (k, low, at) = contains_from_has (flagged 1 vs) (n + 1) (subst (λ m. Has (flagged 1 vs) m) (omega arith) (at_flagged 1 vs n (one_inside vs n one) one)) in
      list_any_at f (flagged 1 vs) k (n + 1) low (ap f at ∙ is)

  pub none_passes : (count : ℕ) → length vs ≤ count → ((i : ℕ) → i < count → get_or vs i 0 ≡ 1 → f (i + 1) ≡ true → ⊥) → list_any f (flagged 1 vs) ≡ false
  none_passes count all isnt = list_any_none f (flagged 1 vs) (λ k d l. fails (get_or (flagged 1 vs) k d) (has_from_contains (flagged 1 vs) (get_or (flagged 1 vs) k d) (Contains-get_or (flagged 1 vs) k d l)))
    where
      fails : (v : ℕ) → Has (flagged 1 vs) v → f v ≡ false
      fails v h =
          let (i, low, one, at) = flagged_at 1 vs v h in
          by (f v) refl (λ is. isnt i (omega (arith, low, all)) one (ap f (omega (arith, at)) ∙ is))
        where
          by : (b : Bool) → f v ≡ b → (f v ≡ true → ⊥) → f v ≡ false
          by true e hold = absurd (hold e)
          by false e hold = e
