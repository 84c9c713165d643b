-- The rule of a node by states is its rule by definition.
use Rattle.std.proofs.Common.{◌≡◌, ◌⊎◌, inl, inr, ◌<ℤ◌, ◌≤ℤ◌, ℕ, ℤ, zero, suc, ◌+◌, ◌<◌, ◌≤◌, List, [], ◌∷◌, ◌++◌, refl, ap, ◌∙◌, sym, subst, Bool, true, false, Option, Some, None, slice_get, get_or, int_lt, length, take, drop, All, arith, rules}
use Rattle.std.proofs.lemmas.List.{drop_more, take-append-drop, get_or-take, get_or-drop, length-take, length-drop}
use Rattle.std.proofs.lemmas.Option.{get_or_from_slice_get, slice_get-get_or, slice_get_within}
use Rattle.tc_model.specs.Trees.{Trees, none}
use Rattle.tc_model.specs.Chains.{Tree, Chain, top, under}
use Rattle.tc_model.specs.Sheets.{Test, Rule}
use Rattle.tc_model.specs.Paths.{fits}
use Rattle.tc_model.specs.Meaning.{rule_of}
use Rattle.tc_model.specs.Laws.{IsCandidate}
use Rattle.tc_model.specs.Symbols.{Mention}
use Rattle.tc_model.specs.Letters.{letter_of}
use Rattle.tc_model.specs.PathStates.{State, first_items, first_state, further, next_state, ends, steps_of, path_of_rules}
use Rattle.tc_model.specs.RuleStates.{IsFitting, IsRuleOf, built_in, best, fits_below}
use Rattle.tc_model.proofs.UniqueRule.{last_of_greatest, none_without}
use Rattle.tc_model.proofs.TotalAbove.{fits_above}
use Rattle.tc_rules.specs.Covered.{AreCovered, IsCovered}
use Rattle.tc_rules.proofs.Exact.{items_at, items_fit, state_at}

-- the rule of a number, or none
abbrev pub picked : List Rule → Option ℕ → Option Rule
picked rs None = None
picked rs (Some i) = slice_get rs i

at_most : (x y : ℤ) (P : Type 0) → (int_lt x y ≡ true) ⊎ ((x ≡ y) × P) → x ≤ℤ y
at_most x y P (inl e) = search (rules, arith)
at_most x y P (inr (e, k)) = search (rules, arith)

below_it : (x y : ℤ) (j i : ℕ) → i < j → (int_lt x y ≡ true) ⊎ ((x ≡ y) × (j ≤ i)) → x <ℤ y
below_it x y j i l (inl e) = search (rules, arith)
below_it x y j i l (inr (e, k)) = absurd (omega (arith, l, k))

module _ (m : ℕ) (c : Chain) (rs : List Rule) where
  abbrev Fit : ℕ → Rule → Bool
  Fit i r = fits r.pattern c

  as_fitting : (j : ℕ) (d : Rule) → j < length rs → IsCandidate m c (get_or rs j d) → IsFitting rs m Fit j (get_or rs j d)
  as_fitting j d l a = record { at = slice_get-get_or rs j d l; mode = a.0; fits_here = a.1 }

  -- of the best, and where there is none
  pub rule_is : (o : Option ℕ) → IsRuleOf rs m Fit o → rule_of rs m c ≡ picked rs o
  rule_is None (built_in h) = none_without m c rs (λ j d l a. h j (get_or rs j d) (as_fitting j d l a))
  rule_is (Some i) (best {r = r} k h) =
      let within : i < length rs = slice_get_within rs i r k.at in
      let here : get_or rs i r ≡ r = get_or_from_slice_get rs i r r k.at in
      let split : rs ≡ take i rs ++ (r ∷ drop (i + 1) rs) = sym (take-append-drop i rs) ∙ ap (λ w. take i rs ++ w) (drop_more rs i r within ∙ ap (λ w. w ∷ drop (i + 1) rs) here) in
      let low : All (λ q. IsCandidate m c q → q.priority ≤ℤ r.priority) (take i rs) = λ j d l a.
      let before : j < i = omega (arith, length-take i rs, l, within) in
      let same : get_or (take i rs) j d ≡ get_or rs j d = get_or-take i rs j d before in
      subst (λ (q : Rule). q.priority ≤ℤ r.priority) (sym same)
      (at_most _ _ _ (h j (get_or rs j d) (as_fitting j d (omega (arith, before, within)) (subst (IsCandidate m c) same a))))
      in
      let high : All (λ q. IsCandidate m c q → q.priority <ℤ r.priority) (drop (i + 1) rs) = λ j d l a.
      let same : get_or (drop (i + 1) rs) j d ≡ get_or rs (i + 1 + j) d = get_or-drop (i + 1) rs j d in
      subst (λ (q : Rule). q.priority <ℤ r.priority) (sym same)
      (below_it _ _ (i + 1 + j) i (omega arith) (h (i + 1 + j) (get_or rs (i + 1 + j) d) (as_fitting (i + 1 + j) d (omega (arith, length-drop (i + 1) rs, l)) (subst (IsCandidate m c) same a))))
      in
      ap (λ w. rule_of w m c) split ∙ (last_of_greatest m c (take i rs) (drop (i + 1) rs) r (k.mode, k.fits_here) low high ∙ sym k.at)

some_is : {X : Type 0} {a b : X} → Some a ≡ Some b → a ≡ b
some_is e = cc

module _ (symbols : List Mention) (predicates : List Test) where
  -- a state has items for each rule
  abbrev Fills : List Rule → State → Type 0
  Fills rs state = length state ≡ length rs

  firsts : (rs : List Rule) (i : ℕ) (r : Rule) → slice_get rs i ≡ Some r → get_or (first_state (path_of_rules rs)) i [] ≡ first_items (steps_of r.pattern)
  firsts [] i r e = absurd (cc)
  firsts (q ∷ rs) zero r e = ap (λ (x : Rule). first_items (steps_of x.pattern)) (some_is e)
  firsts (q ∷ rs) (suc i) r e = firsts rs i r e

  first_fills : (rs : List Rule) → Fills rs (first_state (path_of_rules rs))
  first_fills [] = refl
  first_fills (r ∷ rs) = ap suc (first_fills rs)

  nexts : (rs : List Rule) (state : State) (t : Tree) (i : ℕ) (r : Rule) → Fills rs state → slice_get rs i ≡ Some r
      → get_or (next_state symbols predicates (path_of_rules rs) state (letter_of symbols predicates t)) i [] ≡ further symbols predicates (steps_of r.pattern) (letter_of symbols predicates t) false (get_or state i [])
  nexts [] state t i r f e = absurd (cc)
  nexts (q ∷ rs) [] t i r f e = absurd (omega (arith, f))
  nexts (q ∷ rs) (items ∷ state) t zero r f e = ap (λ (x : Rule). further symbols predicates (steps_of x.pattern) (letter_of symbols predicates t) false items) (some_is e)
  nexts (q ∷ rs) (items ∷ state) t (suc i) r f e = nexts rs state t i r (omega (arith, f)) e

  next_fills : (rs : List Rule) (state : State) (t : Tree) → Fills rs state → Fills rs (next_state symbols predicates (path_of_rules rs) state (letter_of symbols predicates t))
  next_fills [] state t f = refl
  next_fills (r ∷ rs) [] t f = absurd (omega (arith, f))
  next_fills (r ∷ rs) (items ∷ state) t f = ap suc (next_fills rs state t (omega (arith, f)))

  fills_at : (rs : List Rule) (c : Chain) → Fills rs (state_at symbols predicates (path_of_rules rs) c)
  fills_at rs (top doc) = first_fills rs
  fills_at rs (under c t) = next_fills rs (state_at symbols predicates (path_of_rules rs) c) t (fills_at rs c)

  -- the items of a rule in the state of all rules' patterns
  own_items : (rs : List Rule) (c : Chain) (i : ℕ) (r : Rule) → slice_get rs i ≡ Some r
      → get_or (state_at symbols predicates (path_of_rules rs) c) i [] ≡ items_at symbols predicates (steps_of r.pattern) c
  own_items rs (top doc) i r e = firsts rs i r e
  own_items rs (under c t) i r e =
      nexts rs (state_at symbols predicates (path_of_rules rs) c) t i r (fills_at rs c) e
      ∙ ap (further symbols predicates (steps_of r.pattern) (letter_of symbols predicates t) false) (own_items rs c i r e)

  rule_covered : (rs : List Rule) → IsCovered symbols predicates (path_of_rules rs) → (i : ℕ) (r : Rule) → slice_get rs i ≡ Some r → AreCovered symbols predicates (steps_of r.pattern)
  rule_covered [] v i r e = absurd (cc)
  rule_covered (q ∷ rs) v zero r e = subst (λ (x : Rule). AreCovered symbols predicates (steps_of x.pattern)) (some_is e) v.0
  rule_covered (q ∷ rs) v (suc i) r e = rule_covered rs v.1 i r e

  -- which rules fit is told by the state above a node and its letter
  fits_is : (rs : List Rule) → IsCovered symbols predicates (path_of_rules rs) → (c : Chain) (t : Tree) (i : ℕ) (r : Rule) → slice_get rs i ≡ Some r
      → fits_below symbols predicates (state_at symbols predicates (path_of_rules rs) c) (letter_of symbols predicates t) i r ≡ fits r.pattern (under c t)
  fits_is rs v c t i r e =
      ap (λ w. ends symbols predicates (steps_of r.pattern) w (letter_of symbols predicates t)) (own_items rs c i r e)
      ∙ items_fit symbols predicates r.pattern (rule_covered rs v i r e) c t

  same_fitting : (rs : List Rule) (m : ℕ) (f g : ℕ → Rule → Bool) → ((i : ℕ) (r : Rule) → slice_get rs i ≡ Some r → f i r ≡ g i r) → (i : ℕ) (r : Rule) → IsFitting rs m f i r → IsFitting rs m g i r
  same_fitting rs m f g h i r k = record { at = k.at; mode = k.mode; fits_here = sym (h i r k.at) ∙ k.fits_here }

  same_rule : (rs : List Rule) (m : ℕ) (f g : ℕ → Rule → Bool) → ((i : ℕ) (r : Rule) → slice_get rs i ≡ Some r → f i r ≡ g i r) → (o : Option ℕ) → IsRuleOf rs m f o → IsRuleOf rs m g o
  same_rule rs m f g h None (built_in k) = built_in (λ j q a. k j q (same_fitting rs m g f (λ i r e. sym (h i r e)) j q a))
  same_rule rs m f g h (Some i) (best {r = r} k l) = best (same_fitting rs m f g h i r k) (λ j q a. l j q (same_fitting rs m g f (λ x y e. sym (h x y e)) j q a))

  -- the rule by the state above a node and its letter is the rule of the node
  pub rule_by_state : (rs : List Rule) → IsCovered symbols predicates (path_of_rules rs) → (m : ℕ) (c : Chain) (t : Tree) (o : Option ℕ)
      → IsRuleOf rs m (fits_below symbols predicates (state_at symbols predicates (path_of_rules rs) c) (letter_of symbols predicates t)) o → rule_of rs m (under c t) ≡ picked rs o
  rule_by_state rs v m c t o k =
      rule_is m (under c t) rs o
      (same_rule rs m (fits_below symbols predicates (state_at symbols predicates (path_of_rules rs) c) (letter_of symbols predicates t)) (λ i r. fits r.pattern (under c t)) (λ i r e. fits_is rs v c t i r e) o k)

  -- the rule of the root is that of any root
  pub root_rule_is : (rs : List Rule) (m : ℕ) (doc : Trees) (o : Option ℕ) → IsRuleOf rs m (λ i r. fits r.pattern (top none)) o → rule_of rs m (top doc) ≡ picked rs o
  root_rule_is rs m doc o k =
      rule_is m (top doc) rs o (same_rule rs m (λ i r. fits r.pattern (top none)) (λ i r. fits r.pattern (top doc)) (λ i r e. fits_above r.pattern (top none) (top doc) refl) o k)
