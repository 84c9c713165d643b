-- The rule that is chosen is the one of greatest priority and number, and there is one answer.
use Rattle.std.proofs.Common.{◌≡◌, ◌⊎◌, inl, inr, ◌≤ℤ◌, ℕ, ℤ, zero, suc, ◌≤◌, List, [], ◌∷◌, refl, ap, ◌∙◌, sym, subst, Bool, true, false, ◌&&◌, nat_eq, int_lt, if◌then◌else◌, Option, Some, None, slice_get, arith, rules}
use Rattle.std.proofs.lemmas.Bool.{true≢false, eqb-true, eq-eqb}
use Rattle.tc_model.specs.Sheets.{Rule}
use Rattle.tc_model.specs.RuleStates.{IsFitting, IsRuleOf, built_in, best}
use Rattle.tc_rules.specs.States.{Chosen, before_chosen, chosen}

abbrev pub number_of_chosen : Option Chosen → Option ℕ
number_of_chosen None = None
number_of_chosen (Some x) = Some x.number

some_is : {X : Type 0} {a b : X} → Some a ≡ Some b → a ≡ b
some_is e = cc

-- of two rules that fit, which comes before
abbrev Yields : ℕ → Rule → ℕ → Rule → Type 0
Yields j q i r = (int_lt q.priority r.priority ≡ true) ⊎ ((q.priority ≡ r.priority) × (j ≤ i))

module _ (m : ℕ) where
  abbrev IsChosen : List Rule → (ℕ → Rule → Bool) → Option Chosen → Type 0
  IsChosen rs f None = (j : ℕ) (q : Rule) → IsFitting rs m f j q → ⊥
  IsChosen rs f (Some x) = IsFitting rs m f x.number x.rule × ((j : ℕ) (q : Rule) → IsFitting rs m f j q → Yields j q x.number x.rule)

  abbrev later : (ℕ → Rule → Bool) → ℕ → Rule → Bool
  later f i q = f (suc i) q

  down_one : {r : Rule} {rs : List Rule} {f : ℕ → Rule → Bool} {i : ℕ} {q : Rule} → IsFitting (r ∷ rs) m f (suc i) q → IsFitting rs m (later f) i q
  down_one h = record { at = h.at; mode = h.mode; fits_here = h.fits_here }

  up_one : {r : Rule} {rs : List Rule} {f : ℕ → Rule → Bool} {i : ℕ} {q : Rule} → IsFitting rs m (later f) i q → IsFitting (r ∷ rs) m f (suc i) q
  up_one h = record { at = h.at; mode = h.mode; fits_here = h.fits_here }

  and_true : (a b : Bool) → a ≡ true → b ≡ true → (a && b) ≡ true
  and_true a b e g = cc

  parts : (a b : Bool) → (a && b) ≡ true → (a ≡ true) × (b ≡ true)
  parts true true e = (refl, refl)
  parts true false e = absurd (true≢false (sym e))
  parts false b e = absurd (true≢false (sym e))

  at_first : {r : Rule} {rs : List Rule} {f : ℕ → Rule → Bool} {q : Rule} → IsFitting (r ∷ rs) m f 0 q → (r ≡ q) × ((nat_eq r.mode m && f 0 r) ≡ true)
  at_first {r} {rs} {f} {q} h =
      let e : r ≡ q = some_is h.at in
      (e, and_true (nat_eq r.mode m) (f 0 r) (eq-eqb r.mode m (ap (λ (x : Rule). x.mode) e ∙ h.mode)) (ap (f 0) e ∙ h.fits_here))

  first_fits : (r : Rule) (rs : List Rule) (f : ℕ → Rule → Bool) → (nat_eq r.mode m && f 0 r) ≡ true → IsFitting (r ∷ rs) m f 0 r
  first_fits r rs f e = let (a, b) = parts (nat_eq r.mode m) (f 0 r) e in record { at = refl; mode = eqb-true r.mode m a; fits_here = b }

  below_or : (x y : ℤ) → int_lt x y ≡ false → y ≤ℤ x
  below_or x y e = search (rules, arith)

  above_or : (x y : ℤ) → y ≤ℤ x → (int_lt y x ≡ true) ⊎ (y ≡ x)
  above_or x y h = by (int_lt y x) refl
    where
      by : (b : Bool) → int_lt y x ≡ b → (int_lt y x ≡ true) ⊎ (y ≡ x)
      by true e = inl e
      by false e = inr (search (rules, arith))

  less_again : (x y z : ℤ) → int_lt y z ≡ true → x ≤ℤ y → int_lt x z ≡ true
  less_again x y z e h = search (rules, arith)

  low_of : (x y : ℤ) (P : Type 0) → (int_lt x y ≡ true) ⊎ ((x ≡ y) × P) → x ≤ℤ y
  low_of x y P (inl e) = search (rules, arith)
  low_of x y P (inr (e, k)) = search (rules, arith)

  or_equal : (j i : ℕ) (q r : Rule) → j ≤ i → (int_lt q.priority r.priority ≡ true) ⊎ (q.priority ≡ r.priority) → Yields j q i r
  or_equal j i q r l (inl e) = inl e
  or_equal j i q r l (inr e) = inr (e, l)

  -- a rule more before those among which one was chosen
  stays : (r : Rule) (rs : List Rule) (f : ℕ → Rule → Bool) (x : Chosen) → IsChosen rs (later f) (Some x) → ((nat_eq r.mode m && f 0 r) ≡ true → r.priority ≤ℤ x.rule.priority)
      → IsChosen (r ∷ rs) f (Some (record { number = suc x.number; rule = x.rule }))
  stays r rs f x (a, h) low = (up_one a, λ j q k. by j q k)
    where
      of_first : (q : Rule) → IsFitting (r ∷ rs) m f 0 q → Yields 0 q (suc x.number) x.rule
      of_first q k =
          let (e, g) = at_first k in
          let lower : q.priority ≤ℤ x.rule.priority = subst (λ (w : Rule). w.priority ≤ℤ x.rule.priority) e (low g) in
          or_equal 0 (suc x.number) q x.rule (omega arith) (above_or x.rule.priority q.priority lower)

      more : (j : ℕ) (q : Rule) → Yields j q x.number x.rule → Yields (suc j) q (suc x.number) x.rule
      more j q (inl e) = inl e
      more j q (inr (e, l)) = inr (e, omega (arith, l))

      by : (j : ℕ) (q : Rule) → IsFitting (r ∷ rs) m f j q → Yields j q (suc x.number) x.rule
      by zero q k = of_first q k
      by (suc j) q k = more j q (h j q (down_one k))

  taken : (r : Rule) (rs : List Rule) (f : ℕ → Rule → Bool) → (nat_eq r.mode m && f 0 r) ≡ true → ((j : ℕ) (q : Rule) → IsFitting rs m (later f) j q → int_lt q.priority r.priority ≡ true)
      → IsChosen (r ∷ rs) f (Some (record { number = 0; rule = r }))
  taken r rs f e h = (first_fits r rs f e, λ j q k. by j q k)
    where
      by : (j : ℕ) (q : Rule) → IsFitting (r ∷ rs) m f j q → Yields j q 0 r
      by zero q k = let (g, n) = at_first k in inr (ap (λ (w : Rule). w.priority) (sym g), omega arith)
      by (suc j) q k = inl (h j q (down_one k))

  nothing_fits : (r : Rule) (rs : List Rule) (f : ℕ → Rule → Bool) → (nat_eq r.mode m && f 0 r) ≡ false → IsChosen rs (later f) None → IsChosen (r ∷ rs) f None
  nothing_fits r rs f e h zero q k = true≢false (sym (at_first k).1 ∙ e)
  nothing_fits r rs f e h (suc j) q k = h j q (down_one k)

  before_is : (b : Bool) (r : Rule) (rs : List Rule) (f : ℕ → Rule → Bool) (o : Option Chosen) → (nat_eq r.mode m && f 0 r) ≡ b → IsChosen rs (later f) o → IsChosen (r ∷ rs) f (before_chosen b r o)
  before_is true r rs f None e h = taken r rs f e (λ j q k. absurd (h j q k))
  before_is false r rs f None e h = nothing_fits r rs f e h
  before_is false r rs f (Some x) e h = stays r rs f x h (λ g. absurd (true≢false (sym g ∙ e)))
  before_is true r rs f (Some x) e h = by (int_lt x.rule.priority r.priority) refl
    where
      by : (d : Bool) → int_lt x.rule.priority r.priority ≡ d → IsChosen (r ∷ rs) f (if d then Some (record { number = 0; rule = r }) else Some (record { number = suc x.number; rule = x.rule }))
      by true g = taken r rs f e (λ j q k. less_again q.priority x.rule.priority r.priority g (low_of q.priority x.rule.priority _ (h.1 j q k)))
      by false g = stays r rs f x h (λ n. below_or x.rule.priority r.priority g)

  none_at : (j : ℕ) (q : Rule) → slice_get [] j ≡ Some q → ⊥
  none_at j q e = cc

  pub chosen_is : (rs : List Rule) (f : ℕ → Rule → Bool) → IsChosen rs f (chosen rs m f)
  chosen_is [] f = λ j q k. absurd (none_at j q k.at)
  chosen_is (r ∷ rs) f = before_is (nat_eq r.mode m && f 0 r) r rs f (chosen rs m (later f)) refl (chosen_is rs (later f))

  as_rule : (rs : List Rule) (f : ℕ → Rule → Bool) (o : Option Chosen) → IsChosen rs f o → IsRuleOf rs m f (number_of_chosen o)
  as_rule rs f None h = built_in h
  as_rule rs f (Some x) (a, h) = best a h

  pub rule_is_chosen : (rs : List Rule) (f : ℕ → Rule → Bool) → IsRuleOf rs m f (number_of_chosen (chosen rs m f))
  rule_is_chosen rs f = as_rule rs f (chosen rs m f) (chosen_is rs f)

  -- there is one answer
  same_at : (rs : List Rule) (i : ℕ) (q r : Rule) → slice_get rs i ≡ Some q → slice_get rs i ≡ Some r → q ≡ r
  same_at rs i q r e g = some_is (sym e ∙ g)

  both_ways : (i j : ℕ) (x y : ℤ) → (int_lt x y ≡ true) ⊎ ((x ≡ y) × (i ≤ j)) → (int_lt y x ≡ true) ⊎ ((y ≡ x) × (j ≤ i)) → i ≡ j
  both_ways i j x y (inl e) (inl g) = absurd (search (rules, arith))
  both_ways i j x y (inl e) (inr (g, l)) = absurd (search (rules, arith))
  both_ways i j x y (inr (e, k)) (inl g) = absurd (search (rules, arith))
  both_ways i j x y (inr (e, k)) (inr (g, l)) = omega (arith, k, l)

  pub one_rule : (rs : List Rule) (f : ℕ → Rule → Bool) (a b : Option ℕ) → IsRuleOf rs m f a → IsRuleOf rs m f b → a ≡ b
  one_rule rs f None None (built_in h) (built_in k) = refl
  one_rule rs f None (Some j) (built_in h) (best k l) = absurd (h j _ k)
  one_rule rs f (Some i) None (best h g) (built_in k) = absurd (k i _ h)
  one_rule rs f (Some i) (Some j) (best {r = q} h g) (best {r = r} k l) = ap Some (both_ways i j q.priority r.priority (l i q h) (g j r k))
