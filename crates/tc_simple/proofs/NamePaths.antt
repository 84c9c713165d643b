-- Which names lead to which, by steps between names of a list.
use Rattle.std.proofs.Common.{◌≡◌, ◌⊎◌, inl, inr, ℕ, zero, suc, ◌<◌, ◌≤◌, List, [], ◌∷◌, subst, arith}
use Rattle.std.proofs.lemmas.Bool.{cases_lt}
use Rattle.tc_model.proofs.SimplifiesUnique.{Has, here, there}
use Rattle.tc_rnc.proofs.Deciding.{Decided, both, decided_by}
use Rattle.tc_simple.proofs.Standing.{has_first, none_has}

-- something of a list has this, or nothing has
pub any_of : {X : Type 0} (P : X → Type 0) → ((x : X) → Decided (P x)) → (xs : List X) → ((x : X) × (Has xs x × P x)) ⊎ ((x : X) → Has xs x → P x → ⊥)
any_of P decide [] = inr (λ x h p. none_has h)
any_of {X} P decide (x ∷ xs) = by (decide x) (any_of P decide xs)
  where
    by : Decided (P x) → ((y : X) × (Has xs y × P y)) ⊎ ((y : X) → Has xs y → P y → ⊥) → ((y : X) × (Has (x ∷ xs) y × P y)) ⊎ ((y : X) → Has (x ∷ xs) y → P y → ⊥)
    by (inl p) k = inl (x, (here, p))
    by (inr h) (inl (y, (m, p))) = inl (y, (there m, p))
    by (inr h) (inr none) = inr (λ y m p. at y m p (has_first m))
      where
        at : (y : X) → Has (x ∷ xs) y → P y → (y ≡ x) ⊎ Has xs y → ⊥
        at y m p (inl e) = h (subst P e p)
        at y m p (inr k) = none y k p

-- the least number below another that has this, or none below it has
pub least_below : (P : ℕ → Type 0) → ((k : ℕ) → Decided (P k)) → (n : ℕ) → ((k : ℕ) × (P k × ((j : ℕ) → P j → k ≤ j))) ⊎ ((k : ℕ) → k < n → P k → ⊥)
least_below P decide zero = inr (λ k h p. omega (arith, h))
least_below P decide (suc n) = by (least_below P decide n) (decide n)
  where
    by : ((k : ℕ) × (P k × ((j : ℕ) → P j → k ≤ j))) ⊎ ((k : ℕ) → k < n → P k → ⊥) → Decided (P n) → ((k : ℕ) × (P k × ((j : ℕ) → P j → k ≤ j))) ⊎ ((k : ℕ) → k < suc n → P k → ⊥)
    by (inl x) d = inl x
    by (inr none) (inl p) = inl (n, (p, λ j q. at j q (cases_lt j n)))
      where
        at : (j : ℕ) → P j → (j < n) ⊎ (n ≤ j) → n ≤ j
        at j q (inl l) = absurd (none j l q)
        at j q (inr l) = l
    by (inr none) (inr h) = inr (λ k l p. at k l p (cases_lt k n))
      where
        at : (k : ℕ) → k < suc n → P k → (k < n) ⊎ (n ≤ k) → ⊥
        at k l p (inl m) = none k m p
        at k l p (inr m) = let same : k ≡ n = omega (arith, l, m) in h (subst P same p)

module _ (E : List ℕ → List ℕ → Type 0) where
  -- one name leads to another, all between being of a list
  pub data Path (among : List (List ℕ)) : List ℕ → List ℕ → Type 0 where
    step : {a b : List ℕ} → E a b → Path among a b
    via : {a z b : List ℕ} → E a z → Has among z → Path among z b → Path among a b

  weaken : {among : List (List ℕ)} {n a b : List ℕ} → Path among a b → Path (n ∷ among) a b
  weaken (step e) = step e
  weaken (via e m p) = via e (there m) (weaken p)

  join : {among : List (List ℕ)} {n a b : List ℕ} → Path among a n → Path among n b → Path (n ∷ among) a b
  join (step e) q = via e here (weaken q)
  join (via e m p) q = via e (there m) (join p q)

  -- a path through one more name, cut where that stands
  cut : {among : List (List ℕ)} {n a b : List ℕ} → Path (n ∷ among) a b → Path among a b ⊎ (Path among a n × Path among n b)
  cut (step e) = inl (step e)
  cut {among} {n} {a} {b} (via {z = z} e m p) = by (has_first m) (cut p)
    where
      by : (z ≡ n) ⊎ Has among z → Path among z b ⊎ (Path among z n × Path among n b) → Path among a b ⊎ (Path among a n × Path among n b)
      by (inl is) (inl q) = inr (step (subst (E a) is e), subst (λ x. Path among x b) is q)
      by (inl is) (inr (p, q)) = inr (step (subst (E a) is e), q)
      by (inr k) (inl q) = inl (via e k q)
      by (inr k) (inr (p, q)) = inr (via e k p, q)

  pub path_here : ((a b : List ℕ) → Decided (E a b)) → (among : List (List ℕ)) (a b : List ℕ) → Decided (Path among a b)
  path_here decide [] a b = decided_by step only (decide a b)
    where
      only : Path [] a b → E a b
      only (step e) = e
      only (via e m p) = absurd (none_has m)
  path_here decide (n ∷ among) a b = by (path_here decide among a b) (both (path_here decide among a n) (path_here decide among n b))
    where
      by : Decided (Path among a b) → Decided (Path among a n × Path among n b) → Decided (Path (n ∷ among) a b)
      by (inl p) k = inl (weaken p)
      by (inr h) (inl (p, q)) = inl (join p q)
      by (inr h) (inr k) = inr (λ p. at (cut p))
        where
          at : Path among a b ⊎ (Path among a n × Path among n b) → ⊥
          at (inl p) = h p
          at (inr z) = k z
