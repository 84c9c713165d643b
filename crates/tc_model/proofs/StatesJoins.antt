-- The automaton of a group accepts exactly the trees that split, and that of a choice what one of both does.
use Rattle.std.proofs.Common.{◌≡◌, ◌<◌, ◌⊎◌, inl, inr, ℕ, refl, sym, ap, ◌∙◌, subst, arith}
use Rattle.tc_model.specs.Names.{ExpandedName}
use Rattle.tc_model.specs.Trees.{Trees, none, text, element, beside}
use Rattle.tc_model.specs.States.{Leaf, Front, front_text, front_element, Automaton, Run, stay, step, AcceptsFrom, shift, joined_edge, group_of, choice_of}

-- edges stay within the states, and none enters the start
pub record IsSound (a : Automaton) : Type 0 where
  pub some : 0 < a.count
  pub from : (i j : ℕ) (l : Leaf) → a.edge i l j → i < a.count
  pub into : (i j : ℕ) (l : Leaf) → a.edge i l j → 0 < j
  pub below : (i j : ℕ) (l : Leaf) → a.edge i l j → j < a.count
  pub accepted : (j : ℕ) → a.accepting j → j < a.count

pub beside_none : (h : Trees) → beside h none ≡ h
beside_none none = refl
beside_none (text s rest) = ap (text s) (beside_none rest)
beside_none (element n c rest) = ap (element n c) (beside_none rest)

-- a run that begins in the first ends there, or goes over to the second once
data Over (F : ℕ → ExpandedName → Trees → Type 0) (a b : Automaton) (From : ℕ → Type 0) (i : ℕ) (h : Trees) (k : ℕ) : Type 0 where
  remains : Run F a.edge i h k → Over F a b From i h k
  crosses : {j z : ℕ} {p q : Trees} → h ≡ beside p q → Run F a.edge i p j → From j → Run F b.edge 0 q z → k ≡ shift a z → 0 < z → Over F a b From i h k

at_start : (a : Automaton) → IsSound a → (i : ℕ) → i ≡ 0 → i < a.count
at_start a sa i e = omega (arith, sa.some)

module _ {F : ℕ → ExpandedName → Trees → Type 0} where
  front_beside : {l : Leaf} {g h : Trees} (k : Trees) → Front F l g h → Front F l (beside g k) (beside h k)
  front_beside k front_text = front_text
  front_beside k (front_element f) = front_element f

  -- one item more before the first of two parts
  pub front_split : {l : Leaf} {g h : Trees} (p q : Trees) → Front F l g h → h ≡ beside p q → (r : Trees) × Front F l r p × (g ≡ beside r q)
  front_split p q (front_text {s}) e = (text s p, front_text, ap (text s) e)
  front_split p q (front_element {r} {n} {c} f) e = (element n c p, front_element f, ap (element n c) e)

  pub joined_runs : {E : ℕ → Leaf → ℕ → Type 0} {i j k : ℕ} {g h : Trees} → Run F E i g j → Run F E j h k → Run F E i (beside g h) k
  joined_runs stay s = s
  joined_runs {h = h} (step f e r) s = step (front_beside h f) e (joined_runs r s)

  module _ (a : Automaton) (sa : IsSound a) where
    -- a run never comes back to the start
    pub ends_after : {y z : ℕ} {h : Trees} → Run F a.edge y h z → 0 < y → 0 < z
    ends_after stay p = p
    ends_after (step {i} {j} {k} {l} f e r) p = ends_after r (sa.into i j l e)

    pub ends_within : {i k : ℕ} {h : Trees} → Run F a.edge i h k → i < a.count → k < a.count
    ends_within stay p = p
    ends_within (step {i} {j} {k} {l} f e r) p = ends_within r (sa.below i j l e)

    ends_at_start : {i k : ℕ} {h : Trees} → Run F a.edge i h k → k ≡ 0 → h ≡ none
    ends_at_start stay p = refl
    ends_at_start (step {i} {j} {k} {l} f e r) p = let after = ends_after r (sa.into i j l e) in absurd (omega arith)

  module _ (a b : Automaton) (sa : IsSound a) (sb : IsSound b) where
    module _ (From : ℕ → Type 0) (before : (i : ℕ) → From i → i < a.count) where
      in_first : {i k : ℕ} {h : Trees} → Run F a.edge i h k → Run F (joined_edge a b From) i h k
      in_first stay = stay
      in_first (step f e r) = step f (inl e) (in_first r)

      in_second : {y z : ℕ} {h : Trees} → Run F b.edge y h z → 0 < y → Run F (joined_edge a b From) (shift a y) h (shift a z)
      in_second stay p = stay
      in_second (step {i} {j} {k} {l} f e r) p = step f (inr (inl (i, j, refl, refl, p, e))) (in_second r (sb.into i j l e))

      -- a run that has come to the second stays there
      second_only : {i k : ℕ} {h : Trees} (y : ℕ) → Run F (joined_edge a b From) i h k → i ≡ shift a y → 0 < y → (z : ℕ) × (k ≡ shift a z) × (0 < z) × Run F b.edge y h z
      second_only y stay at p = (y, at, p, stay)
      second_only y (step {i} {j} {k} {l} f (inl e) r) at p = absurd (omega (arith, sa.some, sa.from i j l e))
      second_only y (step {i} {j} {k} {l} f (inr (inl (x, z, is, goes, q, e))) r) at p =
          let rest = second_only z r goes (sb.into x z l e) in
          let same : x ≡ y = omega (arith, sa.some) in
          (rest.0, rest.1, rest.2, step f (subst (λ w. b.edge w l z) same e) rest.3)
      second_only y (step {i} {j} {k} {l} f (inr (inr (z, is, goes, e))) r) at p = absurd (omega (arith, sa.some, before i is))

      goes_over : {i k : ℕ} {h : Trees} → Run F (joined_edge a b From) i h k → i < a.count → Over F a b From i h k
      goes_over stay within = remains stay
      goes_over (step {i} {j} {k} {l} f (inl e) r) within = elim (goes_over r (sa.below i j l e)) [
        | remains rest ↦ remains (step f e rest)
        | crosses {j = m} {z = z} {p = p} {q = q} is first from second at some ↦ let more = front_split p q f is in crosses more.2 (step more.1 e first) from second at some
      ]
      goes_over (step {i} {j} {k} {l} f (inr (inl (x, z, is, at, q, e))) r) within = absurd (omega (arith, sa.some))
      goes_over (step {i} {j} {k} {l} {g} f (inr (inr (z, is, at, e))) r) within =
          let rest = second_only z r at (sb.into 0 z l e) in
          crosses {p = none} {q = g} refl stay is (step f e rest.3) rest.1 rest.2

      -- a run of the first, and one of the second that isn't empty
      goes_on : {i j k z : ℕ} {l : Leaf} {p q r : Trees} → Run F a.edge i p j → From j → Front F l q r → b.edge 0 l z → Run F b.edge z r k → Run F (joined_edge a b From) i (beside p q) (shift a k) × (0 < k)
      goes_on {z = z} {l = l} first from f e second =
          (joined_runs (in_first first) (step f (inr (inr (z, from, refl, e))) (in_second second (sb.into 0 z l e))), ends_after b sb second (sb.into 0 z l e))

    -- a hedge that the group accepts splits
    split_over : {h : Trees} {k : ℕ} → Over F a b a.accepting 0 h k → (group_of a b).accepting k → (p : Trees) × (q : Trees) × (h ≡ beside p q) × AcceptsFrom F a 0 p × AcceptsFrom F b 0 q
    split_over {k = k} (remains first) (inl (y, is, some, last)) = let within = ends_within a sa first sa.some in absurd (omega (arith, sa.some))
    split_over {h = h} {k = k} (remains first) (inr (last, here)) = (h, none, sym (beside_none h), (k, first, here), (0, stay, last))
    split_over (crosses {j = j} {z = z} {p = p} {q = q} is first from second at some) (inl (y, other, more, last)) =
        let same : y ≡ z = omega (arith, sa.some) in
        (p, q, is, (j, first, from), (z, second, subst b.accepting same last))
    split_over {k = k} (crosses is first from second at some) (inr (last, here)) = absurd (omega (arith, sa.some, sa.accepted k here))

    pub splits : {h : Trees} → AcceptsFrom F (group_of a b) 0 h → (p : Trees) × (q : Trees) × (h ≡ beside p q) × AcceptsFrom F a 0 p × AcceptsFrom F b 0 q
    splits (k, r, acc) = split_over (goes_over a.accepting sa.accepted r sa.some) acc

    -- two parts that are accepted make a hedge that the group accepts
    pub joins : {p q : Trees} → AcceptsFrom F a 0 p → AcceptsFrom F b 0 q → AcceptsFrom F (group_of a b) 0 (beside p q)
    joins {p = p} (j, r, acc) (k, stay, last) = subst (AcceptsFrom F (group_of a b) 0) (sym (beside_none p)) (j, in_first a.accepting sa.accepted r, inr (last, acc))
    joins (j, r, acc) (k, step f e s, last) = let on = goes_on a.accepting sa.accepted r acc f e s in (shift a k, on.0, inl (k, refl, on.1, last))

    -- what the choice accepts, one of both does
    choose_over : {h : Trees} {k : ℕ} → Over F a b (λ i. i ≡ 0) 0 h k → (choice_of a b).accepting k → AcceptsFrom F a 0 h ⊎ AcceptsFrom F b 0 h
    choose_over {k = k} (remains first) (inl here) = inl (k, first, here)
    choose_over {k = k} (remains first) (inr (inl (y, is, some, last))) = let within = ends_within a sa first sa.some in absurd (omega (arith, sa.some))
    choose_over {k = k} (remains first) (inr (inr (is, last))) = inr (0, subst (λ w. Run F b.edge 0 w 0) (sym (ends_at_start a sa first is)) stay, last)
    choose_over {k = k} (crosses is first from second at some) (inl here) = absurd (omega (arith, sa.some, sa.accepted k here))
    choose_over (crosses {z = z} {p = p} {q = q} is first from second at some) (inr (inl (y, other, more, last))) =
        let same : y ≡ z = omega (arith, sa.some) in
        let whole = is ∙ ap (λ w. beside w q) (ends_at_start a sa first from) in
        inr (z, subst (λ w. Run F b.edge 0 w z) (sym whole) second, subst b.accepting same last)
    choose_over {k = k} (crosses is first from second at some) (inr (inr (start, last))) = absurd (omega (arith, sa.some))

    pub chooses : {h : Trees} → AcceptsFrom F (choice_of a b) 0 h → AcceptsFrom F a 0 h ⊎ AcceptsFrom F b 0 h
    chooses (k, r, acc) = choose_over (goes_over (λ i. i ≡ 0) (at_start a sa) r sa.some) acc

    pub first_chosen : {h : Trees} → AcceptsFrom F a 0 h → AcceptsFrom F (choice_of a b) 0 h
    first_chosen (k, r, acc) = (k, in_first (λ i. i ≡ 0) (at_start a sa) r, inl acc)

    pub second_chosen : {h : Trees} → AcceptsFrom F b 0 h → AcceptsFrom F (choice_of a b) 0 h
    second_chosen (k, stay, acc) = (0, stay, inr (inr (refl, acc)))
    second_chosen (k, step f e s, acc) = let on = goes_on (λ i. i ≡ 0) (at_start a sa) stay refl f e s in (shift a k, on.0, inr (inl (k, refl, on.1, acc)))
