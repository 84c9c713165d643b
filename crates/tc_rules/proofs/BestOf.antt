-- Looking at the rules of a mode one after another gives the rule of the mode.
use Rattle.std.proofs.Common.{◌≡◌, ◌⊎◌, inl, inr, ◌≤ℤ◌, ℕ, ℤ, zero, suc, ◌+◌, ◌-◌, ◌<◌, ◌≤◌, List, [], ◌∷◌, refl, ap, ◌∙◌, sym, subst, Bool, true, false, nat_eq, int_lt, if◌then◌else◌, Option, Some, None, slice_get, arith, rules}
use Rattle.std.proofs.lemmas.Bool.{true≢false, eqb-true, eq-eqb}
use Rattle.tc_model.specs.Trees.{none}
use Rattle.tc_model.specs.Chains.{top}
use Rattle.tc_model.specs.Paths as paths
use Rattle.tc_model.specs.Sheets.{no_step, step, Test, MatchPattern, root_pattern, steps_pattern, Rule}
use Rattle.tc_model.specs.WellFormed.{IsMatchPattern}
use Rattle.tc_model.specs.Symbols.{Mention}
use Rattle.tc_model.specs.Letters.{Letter}
use Rattle.tc_model.specs.PathStates.{State, ends, steps_of, path_of_rules}
use Rattle.tc_model.specs.RuleStates.{IsFitting, IsRuleOf, built_in, best, fits_below}
use Rattle.tc_rules.specs.Graphs.{path_fits}
use Rattle.tc_rules.specs.Kept.{numbers_in_mode}
use Rattle.tc_rules.specs.Picked.{better, best_of, outranks, is_root, is_root_at}
use Rattle.tc_rules.specs.Steps.{ends_at}
use Rattle.tc_rules.proofs.Fits.{HasShape, ends_is}

some_is : {X : Type 0} {a b : X} → Some a ≡ Some b → a ≡ b
some_is e = cc

same_place : {X : Type 0} (xs : List X) (i j : ℕ) → i ≡ j → slice_get xs i ≡ slice_get xs j
same_place xs i j e = ap (slice_get xs) e

-- which of two comes first, by priority and then by place
abbrev Before : ℕ → Rule → ℕ → Rule → Type 0
Before j q i r = (int_lt q.priority r.priority ≡ true) ⊎ ((q.priority ≡ r.priority) × (j ≤ i))

below_or_is : (j k : ℕ) → j < suc k → (j < k) ⊎ (j ≡ k)
below_or_is zero zero l = inr refl
below_or_is zero (suc k) l = inl (omega arith)
below_or_is (suc j) zero l = absurd (omega arith)
below_or_is (suc j) (suc k) l = elim (below_or_is j k (omega arith)) [ inl a ↦ inl (omega (arith, a)) | inr e ↦ inr (ap suc e) ]

below_or_not : (j k : ℕ) → (j < k) ⊎ (k ≤ j)
below_or_not j zero = inr (omega arith)
below_or_not zero (suc k) = inl (omega arith)
below_or_not (suc j) (suc k) = elim (below_or_not j k) [ inl a ↦ inl (omega (arith, a)) | inr b ↦ inr (omega (arith, b)) ]

less_again : (x y z : ℤ) → int_lt x y ≡ true → y ≤ℤ z → int_lt x z ≡ true
less_again x y z e h = search (rules, arith)

not_less : (x y : ℤ) → int_lt x y ≡ false → y ≤ℤ x
not_less x y e = search (rules, arith)

less_or_is : (x y : ℤ) → x ≤ℤ y → (int_lt x y ≡ true) ⊎ (x ≡ y)
less_or_is x y h = by (int_lt x y) refl
  where
    by : (b : Bool) → int_lt x y ≡ b → (int_lt x y ≡ true) ⊎ (x ≡ y)
    by true e = inl e
    by false e = inr (search (rules, arith))

module _ (rs : List Rule) (m : ℕ) (F : ℕ → Rule → Bool) where
  -- the best of those before a place
  abbrev IsBest : ℕ → Option ℕ → Type 0
  IsBest k None = (j : ℕ) (q : Rule) → j < k → IsFitting rs m F j q → ⊥
  IsBest k (Some i) = (r : Rule) × IsFitting rs m F i r × (i < k) × ((j : ℕ) (q : Rule) → j < k → IsFitting rs m F j q → Before j q i r)

  same_rule : (k : ℕ) (q p : Rule) → slice_get rs k ≡ Some q → slice_get rs k ≡ Some p → p ≡ q
  same_rule k q p e f = some_is (sym f ∙ e)

  at_it : (j k : ℕ) (q p : Rule) → j ≡ k → slice_get rs k ≡ Some q → slice_get rs j ≡ Some p → p ≡ q
  at_it j k q p e f g = same_rule k q p f (ap (slice_get rs) (sym e) ∙ g)

  is_before : (j k : ℕ) (q p : Rule) → j ≡ k → p ≡ q → Before j p k q
  is_before j k q p e f = inr (ap (λ (w : Rule). w.priority) f, omega (arith, e))

  -- a rule that fits comes after the best
  weaker : (k i : ℕ) (q r : Rule) → int_lt q.priority r.priority ≡ false → (j : ℕ) (p : Rule) → j < k → Before j p i r → Before j p k q
  weaker k i q r f j p l (inl e) = inl (less_again p.priority r.priority q.priority e (not_less q.priority r.priority f))
  weaker k i q r f j p l (inr (e, n)) =
      elim (less_or_is p.priority q.priority (subst (λ w. w ≤ℤ q.priority) (sym e) (not_less q.priority r.priority f))) [ inl a ↦ inl a | inr b ↦ inr (b, omega (arith, l)) ]

  with_more : (k i : ℕ) (q r : Rule) → IsFitting rs m F k q → IsFitting rs m F i r → i < k → ((j : ℕ) (p : Rule) → j < k → IsFitting rs m F j p → Before j p i r)
      → (b : Bool) → int_lt q.priority r.priority ≡ b → IsBest (suc k) (if b then Some i else Some k)
  with_more k i q r h g l all true e =
      (r, g, omega (arith, l), λ j p n w. elim (below_or_is j k n) [ inl a ↦ all j p a w | inr x ↦ inl (subst (λ (z : Rule). int_lt z.priority r.priority ≡ true) (sym (at_it j k q p x h.at w.at)) e) ])
  with_more k i q r h g l all false e =
      (q, h, omega arith, λ j p n w. elim (below_or_is j k n) [ inl a ↦ weaker k i q r e j p a (all j p a w) | inr x ↦ is_before j k q p x (at_it j k q p x h.at w.at) ])

  one_more : (k : ℕ) (o : Option ℕ) (q : Rule) → IsFitting rs m F k q → IsBest k o → IsBest (suc k) (better rs o k)
  one_more k None q h b = (q, h, omega arith, λ j p n w. elim (below_or_is j k n) [ inl a ↦ absurd (b j p a w) | inr x ↦ is_before j k q p x (at_it j k q p x h.at w.at) ])
  one_more k (Some i) q h b =
      let ranks : outranks (slice_get rs i) (slice_get rs k) ≡ int_lt q.priority b.0.priority = ap (λ w. outranks w (slice_get rs k)) b.1.at ∙ ap (outranks (Some b.0)) h.at in
      with_more k i q b.0 h b.1 b.2 b.3 (outranks (slice_get rs i) (slice_get rs k)) (sym ranks)

  none_more : (k : ℕ) (o : Option ℕ) → ((q : Rule) → IsFitting rs m F k q → ⊥) → IsBest k o → IsBest (suc k) o
  none_more k None h b = λ j p n w. elim (below_or_is j k n) [ inl a ↦ b j p a w | inr x ↦ h p (subst (λ i. IsFitting rs m F i p) x w) ]
  none_more k (Some i) h b =
      (b.0, b.1, omega (arith, b.2), λ j p n w. elim (below_or_is j k n) [ inl a ↦ b.3 j p a w | inr x ↦ absurd (h p (subst (λ i. IsFitting rs m F i p) x w)) ])

  module _ (fit : ℕ → Bool) (agrees : (i : ℕ) (r : Rule) → slice_get rs i ≡ Some r → fit i ≡ F i r) where
    all_seen : (k : ℕ) (o : Option ℕ) → ((j : ℕ) → slice_get rs (k + j) ≡ slice_get [] j) → IsBest k o → IsRuleOf rs m F o
    all_seen k None at b = built_in (λ j q w. b j q (inside j q w.at) w)
      where
        none_at : (j : ℕ) (q : Rule) → slice_get [] j ≡ Some q → ⊥
        none_at j q e = cc

        inside : (j : ℕ) (q : Rule) → slice_get rs j ≡ Some q → j < k
        inside j q e = elim (below_or_not j k) [ inl a ↦ a | inr l ↦ absurd (none_at (j - k) q (sym (at (j - k)) ∙ (same_place rs (k + (j - k)) j (omega (arith, l)) ∙ e))) ]
    all_seen k (Some i) at b = best b.1 (λ j q w. b.3 j q (inside j q w.at) w)
      where
        none_at : (j : ℕ) (q : Rule) → slice_get [] j ≡ Some q → ⊥
        none_at j q e = cc

        inside : (j : ℕ) (q : Rule) → slice_get rs j ≡ Some q → j < k
        inside j q e = elim (below_or_not j k) [ inl a ↦ a | inr l ↦ absurd (none_at (j - k) q (sym (at (j - k)) ∙ (same_place rs (k + (j - k)) j (omega (arith, l)) ∙ e))) ]

    next_rule : (q : Rule) (rest : List Rule) (k : ℕ) (o : Option ℕ) → slice_get rs k ≡ Some q → IsBest k o
        → ((p : Option ℕ) → IsBest (suc k) p → IsRuleOf rs m F (best_of rs fit p (numbers_in_mode m (suc k) rest))) → IsRuleOf rs m F (best_of rs fit o (numbers_in_mode m k (q ∷ rest)))
    next_rule q rest k o here b goes_on = by (nat_eq q.mode m) refl
      where
        ns : List ℕ
        ns = numbers_in_mode m (suc k) rest

        fitting : (c : Bool) → q.mode ≡ m → fit k ≡ c → IsRuleOf rs m F (best_of rs fit (if c then better rs o k else o) ns)
        fitting true e f = goes_on (better rs o k) (one_more k o q (record { at = here; mode = e; fits_here = sym (agrees k q here) ∙ f }) b)
        fitting false e f = goes_on o (none_more k o (λ p w. true≢false (sym w.fits_here ∙ (sym (agrees k p w.at) ∙ f))) b)

        by : (c : Bool) → nat_eq q.mode m ≡ c → IsRuleOf rs m F (best_of rs fit o (if c then (k ∷ ns) else ns))
        by true e = fitting (fit k) (eqb-true q.mode m e) refl
        by false e = goes_on o (none_more k o (λ p w. true≢false (sym (eq-eqb q.mode m (ap (λ (z : Rule). z.mode) (sym (same_rule k q p here w.at)) ∙ w.mode)) ∙ e)) b)

    seen_from : (rest : List Rule) (k : ℕ) (o : Option ℕ) → ((j : ℕ) → slice_get rs (k + j) ≡ slice_get rest j) → IsBest k o → IsRuleOf rs m F (best_of rs fit o (numbers_in_mode m k rest))
    seen_from [] k o at b = all_seen k o at b
    seen_from (q ∷ rest) k o at b =
        next_rule q rest k o (same_place rs k (k + 0) (omega arith) ∙ at 0) b (λ p c. seen_from rest (suc k) p (λ j. same_place rs (suc k + j) (k + suc j) (omega arith) ∙ at (suc j)) c)

    -- the rule of the mode
    pub best_is : IsRuleOf rs m F (best_of rs fit None (numbers_in_mode m 0 rs))
    best_is = seen_from rs 0 None (λ j. same_place rs (0 + j) j (omega arith)) (λ j q l w. absurd (omega (arith, l)))

-- at the root the rules with the pattern `/` fit
root_fits : (p : MatchPattern) → IsMatchPattern p → is_root p ≡ paths.fits p (top none)
root_fits root_pattern h = refl
root_fits (steps_pattern no_step) h = absurd (h.0 refl)
root_fits (steps_pattern (step d t w ss)) h = refl

pub root_best : (rs : List Rule) (m : ℕ) → ((i : ℕ) (r : Rule) → slice_get rs i ≡ Some r → IsMatchPattern r.pattern) → IsRuleOf rs m (λ i r. paths.fits r.pattern (top none)) (best_of rs (is_root_at rs) None (numbers_in_mode m 0 rs))
root_best rs m h = best_is rs m (λ i r. paths.fits r.pattern (top none)) (is_root_at rs) (λ i r e. root_at i r e ∙ root_fits r.pattern (h i r e))
  where
    root_at : (i : ℕ) (r : Rule) → slice_get rs i ≡ Some r → is_root_at rs i ≡ is_root r.pattern
    root_at i r e = cc

-- below a state the rules fit whose alternatives end
module _ (symbols : List Mention) (tests : List Test) (l : Letter) where
  pub ends_by_rule : (rs : List Rule) (x : State) (i : ℕ) (r : Rule) → HasShape (path_of_rules rs) x → slice_get rs i ≡ Some r → ends_at x (path_fits symbols tests (path_of_rules rs) l) i ≡ fits_below symbols tests x l i r
  ends_by_rule [] x i r h e = absurd (cc)
  ends_by_rule (q ∷ rs) [] i r h e = absurd h
  ends_by_rule (q ∷ rs) (items ∷ x) zero r h e = ends_is symbols tests l (steps_of q.pattern) items h.0 ∙ ap (λ (z : Rule). ends symbols tests (steps_of z.pattern) items l) (some_is e)
  ends_by_rule (q ∷ rs) (items ∷ x) (suc i) r h e = ends_by_rule rs x i r h.1 e

  pub below_best : (rs : List Rule) (m : ℕ) (x : State) → HasShape (path_of_rules rs) x
      → IsRuleOf rs m (fits_below symbols tests x l) (best_of rs (ends_at x (path_fits symbols tests (path_of_rules rs) l)) None (numbers_in_mode m 0 rs))
  below_best rs m x h = best_is rs m (fits_below symbols tests x l) (ends_at x (path_fits symbols tests (path_of_rules rs) l)) (λ i r e. ends_by_rule rs x i r h e)
