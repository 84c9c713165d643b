-- What the lists of edges show: the automata of groups, choices, repetitions and interleaves.
use Rattle.std.proofs.Common.{◌≡◌, ◌<◌, ◌≤◌, ◌⊎◌, inl, inr, ◌↔◌, ℕ, zero, suc, ◌+◌, ◌-◌, ◌*◌, List, [], ◌∷◌, ◌++◌, refl, sym, ap, ◌∙◌, subst, arith}
use Rattle.std.specs.List.{Contains}
use Rattle.tc_model.specs.States as s
use Rattle.tc_model.specs.States.{Automaton, joined_edge, group_of, choice_of, repeat_of, interleave_of, empty_automaton, text_automaton, ref_automaton, text_leaf, ref_leaf}
use Rattle.tc_model.proofs.StatesJoins.{IsSound}
use Rattle.tc_auto.specs.declared.auto.Leaf.TheVariants.{Text, Ref}
use Rattle.tc_auto.specs.declared.nfa.Nfa.{Nfa}
use Rattle.tc_auto.specs.declared.nfa.Transition.{Transition}
use Rattle.tc_auto.specs.Steps.{leaf, HasStep, first_step, later_step, Has, has_first, has_later, Shown, Shows, IsWithin, carried, later, all_beside_first, all_beside_second, all_pairs}
use Rattle.tc_auto.proofs.Lists.{step_left, step_right, step_cases, has_left, has_right, has_cases, step_of, has_of, carried_to, carried_of, later_to, later_of, all_second_to, all_second_of, all_first_to, all_first_of, all_pairs_to, all_pairs_of}

-- the edges, and the accepting states, of a part that shows an automaton stay within its states
pub steps_within : (a : Automaton) → IsSound a → (n : ℕ) (xs : List Transition) (es : List ℕ) → Shown n xs es a → (x : Transition) → Contains xs x → (x.from < n) × (x.to < n)
steps_within a sa n xs es shown x at =
    let edge = (shown.edge x.from x.to (leaf x.leaf)).0 (step_of xs x at) in
    let same = shown.counted in
    (omega (arith, sa.from _ _ _ edge), omega (arith, sa.below _ _ _ edge))

pub ends_within : (a : Automaton) → IsSound a → (n : ℕ) (xs : List Transition) (es : List ℕ) → Shown n xs es a → (j : ℕ) → Contains es j → j < n
ends_within a sa n xs es shown j at = let same = shown.counted in omega (arith, sa.accepted j ((shown.accepting j).0 (has_of es j at)))

module _ (a b : Automaton) (sa : IsSound a) (sb : IsSound b) (m n : ℕ) (xs ys : List Transition) (es fs : List ℕ) (first : Shown m xs es a) (second : Shown n ys fs b) where
  joined_to : (From : ℕ → Type 0) (starts : List ℕ) → ((i : ℕ) → Has starts i → From i) → (i j : ℕ) (l : s.Leaf) → HasStep (xs ++ carried (m - 1) starts ys) i l j → joined_edge a b From i l j
  joined_to From starts f i j l h = elim (step_cases xs _ h) [
    | inl x ↦ inl ((first.edge i j l).0 x)
    | inr y ↦ elim (carried_to (m - 1) starts ys y) [
      | inl (p, q, is, goes, low, e) ↦ let same = first.counted in inr (inl (p, q, omega arith, omega arith, low, (second.edge p q l).0 e))
      | inr (q, from, goes, e) ↦ let same = first.counted in inr (inr (q, f i from, omega arith, (second.edge 0 q l).0 e))
    ]
  ]

  joined_of : (From : ℕ → Type 0) (starts : List ℕ) → ((i : ℕ) → From i → Has starts i) → (i j : ℕ) (l : s.Leaf) → joined_edge a b From i l j → HasStep (xs ++ carried (m - 1) starts ys) i l j
  joined_of From starts f i j l (inl e) = step_left xs _ ((first.edge i j l).1 e)
  joined_of From starts f i j l (inr (inl (p, q, is, goes, low, e))) = let same = first.counted in step_right xs _ (carried_of (m - 1) starts ys (inl (p, q, omega arith, omega arith, low, (second.edge p q l).1 e)))
  joined_of From starts f i j l (inr (inr (q, from, goes, e))) = let same = first.counted in step_right xs _ (carried_of (m - 1) starts ys (inr (q, f i from, omega arith, (second.edge 0 q l).1 e)))

  one_count : m - 1 + n ≡ a.count + b.count - 1
  one_count = let p = first.counted in let q = second.counted in omega (arith, sa.some)

  shifted_to : {j : ℕ} → Has (later (m - 1) fs) j → (y : ℕ) × (j ≡ s.shift a y) × (0 < y) × b.accepting y
  shifted_to h = let r = later_to (m - 1) fs h in let same = first.counted in (r.0, omega (arith, r.1), r.2, (second.accepting r.0).0 r.3)

  shifted_of : {j : ℕ} (y : ℕ) → j ≡ s.shift a y → 0 < y → b.accepting y → Has (later (m - 1) fs) j
  shifted_of y is low e = let same = first.counted in later_of (m - 1) fs y (omega arith) low ((second.accepting y).1 e)

  group_steps : (i j : ℕ) (l : s.Leaf) → HasStep (xs ++ carried (m - 1) es ys) i l j ↔ (group_of a b).edge i l j
  group_steps i j l = (joined_to a.accepting es (λ i h. (first.accepting i).0 h) i j l, joined_of a.accepting es (λ i h. (first.accepting i).1 h) i j l)

  both_to : Has fs 0 → (j : ℕ) → Has (later (m - 1) fs) j ⊎ Has es j → (group_of a b).accepting j
  both_to last j (inl h) = inl (shifted_to h)
  both_to last j (inr h) = inr ((second.accepting 0).0 last, (first.accepting j).0 h)

  both_of : (j : ℕ) → (group_of a b).accepting j → Has (later (m - 1) fs ++ es) j
  both_of j (inl (y, is, low, e)) = has_left _ es (shifted_of y is low e)
  both_of j (inr (last, e)) = has_right (later (m - 1) fs) es ((first.accepting j).1 e)

  -- the second may be passed over, so what the first accepts is accepted
  pub group_of_both : Has fs 0 → Shown (m - 1 + n) (xs ++ carried (m - 1) es ys) (later (m - 1) fs ++ es) (group_of a b)
  group_of_both last = record { counted = one_count; edge = group_steps; accepting = λ j. (λ h. both_to last j (has_cases (later (m - 1) fs) es h), both_of j) }

  second_of_group : (Has fs 0 → ⊥) → (j : ℕ) → (group_of a b).accepting j → Has (later (m - 1) fs) j
  second_of_group none j (inl (y, is, low, e)) = shifted_of y is low e
  second_of_group none j (inr (last, e)) = absurd (none ((second.accepting 0).1 last))

  pub group_of_second : (Has fs 0 → ⊥) → Shown (m - 1 + n) (xs ++ carried (m - 1) es ys) (later (m - 1) fs) (group_of a b)
  group_of_second none = record { counted = one_count; edge = group_steps; accepting = λ j. (λ h. inl (shifted_to h), second_of_group none j) }

  at_start : (i : ℕ) → Has (0 ∷ []) i → i ≡ 0
  at_start i (has_first e) = sym e
  at_start i (has_later h) = elim h [ ]

  choice_steps : (i j : ℕ) (l : s.Leaf) → HasStep (xs ++ carried (m - 1) (0 ∷ []) ys) i l j ↔ (choice_of a b).edge i l j
  choice_steps i j l = (joined_to (λ i. i ≡ 0) (0 ∷ []) at_start i j l, joined_of (λ i. i ≡ 0) (0 ∷ []) (λ i e. has_first (sym e)) i j l)

  either_to : (j : ℕ) → Has es j ⊎ Has (later (m - 1) fs) j → (choice_of a b).accepting j
  either_to j (inl h) = inl ((first.accepting j).0 h)
  either_to j (inr h) = inr (inl (shifted_to h))

  either_of : (Has fs 0 → Has es 0) → (j : ℕ) → (choice_of a b).accepting j → Has (es ++ later (m - 1) fs) j
  either_of f j (inl e) = has_left es _ ((first.accepting j).1 e)
  either_of f j (inr (inl (y, is, low, e))) = has_right es _ (shifted_of y is low e)
  either_of f j (inr (inr (is, e))) = has_left es _ (subst (Has es) (sym is) (f ((second.accepting 0).1 e)))

  -- the start accepts where it does in the first, or not in the second
  pub choice_of_both : (Has fs 0 → Has es 0) → Shown (m - 1 + n) (xs ++ carried (m - 1) (0 ∷ []) ys) (es ++ later (m - 1) fs) (choice_of a b)
  choice_of_both f = record { counted = one_count; edge = choice_steps; accepting = λ j. (λ h. either_to j (has_cases es _ h), either_of f j) }

  start_to : Has fs 0 → (j : ℕ) → Has (es ++ later (m - 1) fs) j ⊎ Has (0 ∷ []) j → (choice_of a b).accepting j
  start_to last j (inl h) = either_to j (has_cases es _ h)
  start_to last j (inr h) = inr (inr (at_start j h, (second.accepting 0).0 last))

  start_of : (j : ℕ) → (choice_of a b).accepting j → Has ((es ++ later (m - 1) fs) ++ (0 ∷ [])) j
  start_of j (inl e) = has_left _ (0 ∷ []) (has_left es _ ((first.accepting j).1 e))
  start_of j (inr (inl (y, is, low, e))) = has_left _ (0 ∷ []) (has_right es _ (shifted_of y is low e))
  start_of j (inr (inr (is, e))) = has_right (es ++ later (m - 1) fs) (0 ∷ []) (has_first (sym is))

  -- and else it is added
  pub choice_with_start : Has fs 0 → Shown (m - 1 + n) (xs ++ carried (m - 1) (0 ∷ []) ys) ((es ++ later (m - 1) fs) ++ (0 ∷ [])) (choice_of a b)
  choice_with_start last = record { counted = one_count; edge = choice_steps; accepting = λ j. (λ h. start_to last j (has_cases _ (0 ∷ []) h), start_of j) }

  pair_to : (i j : ℕ) (l : s.Leaf) → HasStep (all_beside_second xs n ++ all_beside_first ys n m) i l j → (interleave_of a b).edge i l j
  pair_to i j l h = elim (step_cases (all_beside_second xs n) _ h) [
    | inl x ↦
        let r = all_second_to xs n x in
        inl (r.0, r.1, r.2, r.3 ∙ ap (λ w. r.0 * w + r.2) second.counted, r.4 ∙ ap (λ w. r.1 * w + r.2) second.counted, subst (λ w. r.2 < w) second.counted r.5, (first.edge r.0 r.1 l).0 r.6)
    | inr y ↦
        let r = all_first_to ys n m y in
        inr (r.0, r.1, r.2, r.3 ∙ ap (λ w. r.0 * w + r.1) second.counted, r.4 ∙ ap (λ w. r.0 * w + r.2) second.counted, subst (λ w. r.0 < w) first.counted r.5, (second.edge r.1 r.2 l).0 r.6)
  ]

  pair_of : (i j : ℕ) (l : s.Leaf) → (interleave_of a b).edge i l j → HasStep (all_beside_second xs n ++ all_beside_first ys n m) i l j
  pair_of i j l (inl (x, z, y, is, goes, low, e)) =
      step_left _ _ (all_second_of xs n x z y (is ∙ ap (λ w. x * w + y) (sym second.counted)) (goes ∙ ap (λ w. z * w + y) (sym second.counted)) (subst (λ w. y < w) (sym second.counted) low) ((first.edge x z l).1 e))
  pair_of i j l (inr (x, y, z, is, goes, low, e)) =
      step_right (all_beside_second xs n) _ (all_first_of ys n m x y z (is ∙ ap (λ w. x * w + y) (sym second.counted)) (goes ∙ ap (λ w. x * w + z) (sym second.counted)) (subst (λ w. x < w) (sym first.counted) low) ((second.edge y z l).1 e))

  pair_ends_to : (j : ℕ) → Has (all_pairs n es fs) j → (interleave_of a b).accepting j
  pair_ends_to j h = let r = all_pairs_to n es fs h in (r.0, r.1, r.2 ∙ ap (λ w. r.0 * w + r.1) second.counted, (first.accepting r.0).0 r.3, (second.accepting r.1).0 r.4)

  pair_ends_of : (j : ℕ) → (interleave_of a b).accepting j → Has (all_pairs n es fs) j
  pair_ends_of j (x, y, is, e, f) = all_pairs_of n es fs x y (is ∙ ap (λ w. x * w + y) (sym second.counted)) ((first.accepting x).1 e) ((second.accepting y).1 f)

  pub interleave_shown : Shown (m * n) (all_beside_second xs n ++ all_beside_first ys n m) (all_pairs n es fs) (interleave_of a b)
  interleave_shown = record {
    counted = ap (λ w. w * n) first.counted ∙ ap (λ w. a.count * w) second.counted;
    edge = λ i j l. (pair_to i j l, pair_of i j l);
    accepting = λ j. (pair_ends_to j, pair_ends_of j);
  }

pub shown_as : (a : Automaton) (n : ℕ) (xs zs : List Transition) (es fs : List ℕ) → Shown n xs es a → zs ≡ xs → fs ≡ es → Shown n zs fs a
shown_as a n xs zs es fs s e f = subst (λ (ws : List Transition). Shown n ws fs a) (sym e) (subst (λ (ws : List ℕ). Shown n xs ws a) (sym f) s)

start_of_empty : (j : ℕ) → Has (0 ∷ []) j → j ≡ 0
start_of_empty j (has_first e) = sym e
start_of_empty j (has_later h) = elim h [ ]

no_step : {i j : ℕ} {l : s.Leaf} → HasStep [] i l j → ⊥
no_step h = elim h [ ]

pub empty_shown : Shown 1 [] (0 ∷ []) empty_automaton
empty_shown = record { counted = refl; edge = λ i j l. (λ h. no_step h, λ e. absurd e); accepting = λ j. (λ h. start_of_empty j h, λ e. has_first (sym e)) }

abbrev text_steps : List Transition
text_steps = record { from = 0; leaf = Text; to = 1 } ∷ (record { from = 1; leaf = Text; to = 1 } ∷ [])

text_to : (i j : ℕ) (l : s.Leaf) → HasStep text_steps i l j → (l ≡ text_leaf) × (i ≤ 1) × (j ≡ 1)
text_to i j l (first_step a b c) = (sym b, omega arith, sym c)
text_to i j l (later_step (first_step a b c)) = (sym b, omega arith, sym c)
text_to i j l (later_step (later_step h)) = elim h [ ]

text_of : (i j : ℕ) (l : s.Leaf) → (l ≡ text_leaf) × (i ≤ 1) × (j ≡ 1) → HasStep text_steps i l j
text_of zero j l (a, b, c) = first_step refl (sym a) (sym c)
text_of (suc i) j l (a, b, c) = later_step (first_step (omega arith) (sym a) (sym c))

text_end_to : (j : ℕ) → Has (0 ∷ (1 ∷ [])) j → j ≤ 1
text_end_to j (has_first e) = omega arith
text_end_to j (has_later (has_first e)) = omega arith
text_end_to j (has_later (has_later h)) = elim h [ ]

text_end_of : (j : ℕ) → j ≤ 1 → Has (0 ∷ (1 ∷ [])) j
text_end_of zero h = has_first refl
text_end_of (suc j) h = has_later (has_first (omega arith))

pub text_shown : Shown 2 text_steps (0 ∷ (1 ∷ [])) text_automaton
text_shown = record { counted = refl; edge = λ i j l. (text_to i j l, text_of i j l); accepting = λ j. (text_end_to j, text_end_of j) }

ref_to : (k i j : ℕ) (l : s.Leaf) → HasStep (record { from = 0; leaf = Ref k; to = 1 } ∷ []) i l j → (l ≡ ref_leaf k) × (i ≡ 0) × (j ≡ 1)
ref_to k i j l (first_step a b c) = (sym b, sym a, sym c)
ref_to k i j l (later_step h) = elim h [ ]

one_end : (j : ℕ) → Has (1 ∷ []) j → j ≡ 1
one_end j (has_first e) = sym e
one_end j (has_later h) = elim h [ ]

pub ref_shown : (k : ℕ) → Shown 2 (record { from = 0; leaf = Ref k; to = 1 } ∷ []) (1 ∷ []) (ref_automaton k)
ref_shown k = record { counted = refl; edge = λ i j l. (ref_to k i j l, λ (a, b, c). first_step (sym b) (sym a) (sym c)); accepting = λ j. (one_end j, λ e. has_first (sym e)) }

pub within : (a : Automaton) → IsSound a → (p : Nfa) → Shows p a → IsWithin p
within a sa p shown = record {
  some = let same = shown.counted in omega (arith, sa.some);
  steps = steps_within a sa p.count p.steps.items p.accepting.items shown;
  ends = ends_within a sa p.count p.steps.items p.accepting.items shown;
}
