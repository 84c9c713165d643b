-- A run from the start of a pattern's automaton to an accepting state exists exactly where the trees match the pattern.
use Rattle.std.proofs.Common.{◌≡◌, ◌<◌, ◌≤◌, ◌⊎◌, inl, inr, ℕ, ◌+◌, ◌-◌, ◌*◌, mul_comm, List, Some, refl, sym, ap, ◌∙◌, subst, arith}
use Rattle.std.proofs.lemmas.Nat.{mul-lt, mul-add-lt}
use Rattle.tc_model.specs.Trees.{Trees, none, text, element, beside}
use Rattle.tc_model.specs.Grammars as p
use Rattle.tc_model.specs.Grammars.{Pattern, Patterns, no_more, more, ElementPattern, element_at}
use Rattle.tc_model.specs.Matching.{Matches, InOrder, OneOf, Shuffled, Repeated, Shuffle, AreTexts, m_empty, m_text, m_ref, m_group, m_choice, m_interleave, m_one_or_more, order_end, order_more, here, there, shuffled_end, shuffled_more, once, again, both_end, left_text, left_element, right_text, right_element}
use Rattle.tc_model.specs.States.{Leaf, front_text, front_element, Automaton, Run, stay, step, AcceptsFrom, IsElementOf, joined_edge, group_of, choice_of, repeat_of, interleave_of, empty_automaton, nothing_automaton, text_automaton, ref_automaton, automaton, grouped, chosen, interleaved}
use Rattle.tc_model.proofs.StatesJoins.{IsSound, beside_none, splits, joins, chooses, first_chosen, second_chosen}
use Rattle.tc_model.proofs.StatesRepeats.{Copies, one_copy, more_copies, repeats, repeated}
use Rattle.tc_model.proofs.StatesShuffles.{separates, mixes}

empty_sound : IsSound empty_automaton
empty_sound = record {
  some = omega arith;
  from = λ i j l e. absurd e;
  into = λ i j l e. absurd e;
  below = λ i j l e. absurd e;
  accepted = λ j e. omega (arith, e);
}

nothing_sound : IsSound nothing_automaton
nothing_sound = record {
  some = omega arith;
  from = λ i j l e. absurd e;
  into = λ i j l e. absurd e;
  below = λ i j l e. absurd e;
  accepted = λ j e. absurd e;
}

text_sound : IsSound text_automaton
text_sound = record {
  some = omega arith;
  from = λ i j l (is, from, to). omega (arith, from);
  into = λ i j l (is, from, to). omega (arith, to);
  below = λ i j l (is, from, to). omega (arith, to);
  accepted = λ j e. omega (arith, e);
}

ref_sound : (k : ℕ) → IsSound (ref_automaton k)
ref_sound k = record {
  some = omega arith;
  from = λ i j l (is, from, to). omega (arith, from);
  into = λ i j l (is, from, to). omega (arith, to);
  below = λ i j l (is, from, to). omega (arith, to);
  accepted = λ j e. omega (arith, e);
}

module _ (a b : Automaton) (sa : IsSound a) (sb : IsSound b) where
  module _ (From : ℕ → Type 0) (before : (i : ℕ) → From i → i < a.count) where
    joined_from : (i j : ℕ) (l : Leaf) → joined_edge a b From i l j → i < a.count + b.count - 1
    joined_from i j l (inl e) = omega (arith, sa.from i j l e, sb.some)
    joined_from i j l (inr (inl (x, y, is, to, low, e))) = omega (arith, sa.some, sb.from x y l e)
    joined_from i j l (inr (inr (y, is, to, e))) = omega (arith, before i is, sb.some)

    joined_into : (i j : ℕ) (l : Leaf) → joined_edge a b From i l j → 0 < j
    joined_into i j l (inl e) = sa.into i j l e
    joined_into i j l (inr (inl (x, y, is, to, low, e))) = omega (arith, sb.into x y l e)
    joined_into i j l (inr (inr (y, is, to, e))) = omega (arith, sb.into 0 y l e)

    joined_below : (i j : ℕ) (l : Leaf) → joined_edge a b From i l j → j < a.count + b.count - 1
    joined_below i j l (inl e) = omega (arith, sa.below i j l e, sb.some)
    joined_below i j l (inr (inl (x, y, is, to, low, e))) = omega (arith, sa.some, sb.below x y l e)
    joined_below i j l (inr (inr (y, is, to, e))) = omega (arith, sa.some, sb.below 0 y l e)

  group_accepted : (j : ℕ) → (group_of a b).accepting j → j < a.count + b.count - 1
  group_accepted j (inl (y, is, low, e)) = omega (arith, sa.some, sb.accepted y e)
  group_accepted j (inr (last, e)) = omega (arith, sb.some, sa.accepted j e)

  group_sound : IsSound (group_of a b)
  group_sound = record {
    some = omega (arith, sa.some, sb.some);
    from = joined_from a.accepting sa.accepted;
    into = joined_into a.accepting sa.accepted;
    below = joined_below a.accepting sa.accepted;
    accepted = group_accepted;
  }

  choice_accepted : (j : ℕ) → (choice_of a b).accepting j → j < a.count + b.count - 1
  choice_accepted j (inl e) = omega (arith, sb.some, sa.accepted j e)
  choice_accepted j (inr (inl (y, is, low, e))) = omega (arith, sa.some, sb.accepted y e)
  choice_accepted j (inr (inr (is, e))) = omega (arith, sa.some, sb.some)

  at_start : (i : ℕ) → i ≡ 0 → i < a.count
  at_start i e = omega (arith, sa.some)

  choice_sound : IsSound (choice_of a b)
  choice_sound = record {
    some = omega (arith, sa.some, sb.some);
    from = joined_from (λ i. i ≡ 0) at_start;
    into = joined_into (λ i. i ≡ 0) at_start;
    below = joined_below (λ i. i ≡ 0) at_start;
    accepted = choice_accepted;
  }

  pair_below : (m n x y : ℕ) → x < m → y < n → x * n + y < m * n
  pair_below m n x y p q = subst (λ w. x * n + y < w) (mul_comm n m) (mul-add-lt x n y m p q)

  interleave_from : (i j : ℕ) (l : Leaf) → (interleave_of a b).edge i l j → i < a.count * b.count
  interleave_from i j l (inl (x, z, y, is, to, low, e)) = subst (λ w. w < a.count * b.count) (sym is) (pair_below a.count b.count x y (sa.from x z l e) low)
  interleave_from i j l (inr (x, y, z, is, to, low, e)) = subst (λ w. w < a.count * b.count) (sym is) (pair_below a.count b.count x y low (sb.from y z l e))

  interleave_below : (i j : ℕ) (l : Leaf) → (interleave_of a b).edge i l j → j < a.count * b.count
  interleave_below i j l (inl (x, z, y, is, to, low, e)) = subst (λ w. w < a.count * b.count) (sym to) (pair_below a.count b.count z y (sa.below x z l e) low)
  interleave_below i j l (inr (x, y, z, is, to, low, e)) = subst (λ w. w < a.count * b.count) (sym to) (pair_below a.count b.count x z low (sb.below y z l e))

  pair_above : (n x y : ℕ) → 0 < n → (0 < x) ⊎ (0 < y) → 0 < x * n + y
  pair_above n x y p (inl q) = omega (arith, mul-lt 0 0 x n q p)
  pair_above n x y p (inr q) = omega (arith, q)

  interleave_into : (i j : ℕ) (l : Leaf) → (interleave_of a b).edge i l j → 0 < j
  interleave_into i j l (inl (x, z, y, is, to, low, e)) = subst (λ w. 0 < w) (sym to) (pair_above b.count z y sb.some (inl (sa.into x z l e)))
  interleave_into i j l (inr (x, y, z, is, to, low, e)) = subst (λ w. 0 < w) (sym to) (pair_above b.count x z sb.some (inr (sb.into y z l e)))

  interleave_accepted : (j : ℕ) → (interleave_of a b).accepting j → j < a.count * b.count
  interleave_accepted j (x, y, is, e, f) = subst (λ w. w < a.count * b.count) (sym is) (pair_below a.count b.count x y (sa.accepted x e) (sb.accepted y f))

  interleave_sound : IsSound (interleave_of a b)
  interleave_sound = record {
    some = mul-lt 0 0 a.count b.count sa.some sb.some;
    from = interleave_from;
    into = interleave_into;
    below = interleave_below;
    accepted = interleave_accepted;
  }

repeat_from : (a : Automaton) → IsSound a → (i j : ℕ) (l : Leaf) → (repeat_of a).edge i l j → i < a.count
repeat_from a sa i j l (inl e) = sa.from i j l e
repeat_from a sa i j l (inr (accepts, e)) = sa.accepted i accepts

repeat_into : (a : Automaton) → IsSound a → (i j : ℕ) (l : Leaf) → (repeat_of a).edge i l j → 0 < j
repeat_into a sa i j l (inl e) = sa.into i j l e
repeat_into a sa i j l (inr (accepts, e)) = sa.into 0 j l e

repeat_below : (a : Automaton) → IsSound a → (i j : ℕ) (l : Leaf) → (repeat_of a).edge i l j → j < a.count
repeat_below a sa i j l (inl e) = sa.below i j l e
repeat_below a sa i j l (inr (accepts, e)) = sa.below 0 j l e

repeat_sound : (a : Automaton) → IsSound a → IsSound (repeat_of a)
repeat_sound a sa = record { some = sa.some; from = repeat_from a sa; into = repeat_into a sa; below = repeat_below a sa; accepted = sa.accepted }

mutual
  sound_at : (q : Pattern) → Unit {1} → IsSound (automaton q)
  sound_at p.empty u = empty_sound
  sound_at p.not_allowed u = nothing_sound
  sound_at p.text u = text_sound
  sound_at (p.ref k) u = ref_sound k
  sound_at (p.group ps) u = group_sounds ps empty_automaton empty_sound
  sound_at (p.choice ps) u = choice_sounds ps nothing_automaton nothing_sound
  sound_at (p.interleave ps) u = interleave_sounds ps empty_automaton empty_sound
  sound_at (p.one_or_more q) u = repeat_sound (automaton q) (sound_at q tt)

  group_sounds : (ps : Patterns) (a : Automaton) → IsSound a → IsSound (grouped ps a)
  group_sounds no_more a s = s
  group_sounds (more q qs) a s = group_sounds qs (group_of a (automaton q)) (group_sound a (automaton q) s (sound_at q tt))

  choice_sounds : (ps : Patterns) (a : Automaton) → IsSound a → IsSound (chosen ps a)
  choice_sounds no_more a s = s
  choice_sounds (more q qs) a s = choice_sounds qs (choice_of a (automaton q)) (choice_sound a (automaton q) s (sound_at q tt))

  interleave_sounds : (ps : Patterns) (a : Automaton) → IsSound a → IsSound (interleaved ps a)
  interleave_sounds no_more a s = s
  interleave_sounds (more q qs) a s = interleave_sounds qs (interleave_of a (automaton q)) (interleave_sound a (automaton q) s (sound_at q tt))

-- edges of a pattern's automaton stay within its states, and none enters the start
pub sound : (q : Pattern) → IsSound (automaton q)
sound q = sound_at q tt

beside_assoc : (h k l : Trees) → beside (beside h k) l ≡ beside h (beside k l)
beside_assoc none k l = refl
beside_assoc (text s h) k l = ap (text s) (beside_assoc h k l)
beside_assoc (element n c h) k l = ap (element n c) (beside_assoc h k l)

shuffle_whole : (h : Trees) → Shuffle h none h
shuffle_whole none = both_end
shuffle_whole (text s h) = left_text (shuffle_whole h)
shuffle_whole (element n c h) = left_element (shuffle_whole h)

shuffle_of_whole : {h k l : Trees} → Shuffle h k l → k ≡ none → h ≡ l
shuffle_of_whole both_end e = refl
shuffle_of_whole (left_text {s} m) e = ap (text s) (shuffle_of_whole m e)
shuffle_of_whole (left_element {n} {c} m) e = ap (element n c) (shuffle_of_whole m e)
shuffle_of_whole (right_text m) e = absurd (cc)
shuffle_of_whole (right_element m) e = absurd (cc)

-- of three parts the first two may be taken together, or the last two
to_right : {u v p r h : Trees} → Shuffle u v p → Shuffle p r h → (w : Trees) × Shuffle v r w × Shuffle u w h
to_right both_end both_end = (none, both_end, both_end)
to_right (left_text m) (left_text n) = let x = to_right m n in (x.0, x.1, left_text x.2)
to_right (left_element m) (left_element n) = let x = to_right m n in (x.0, x.1, left_element x.2)
to_right (right_text {s} m) (left_text n) = let x = to_right m n in (text s x.0, left_text x.1, right_text x.2)
to_right (right_element {n = a} {c = c} m) (left_element n) = let x = to_right m n in (element a c x.0, left_element x.1, right_element x.2)
to_right m (right_text {s} n) = let x = to_right m n in (text s x.0, right_text x.1, right_text x.2)
to_right m (right_element {n = a} {c = c} n) = let x = to_right m n in (element a c x.0, right_element x.1, right_element x.2)

to_left : {u v q r h : Trees} → Shuffle v r q → Shuffle u q h → (w : Trees) × Shuffle u v w × Shuffle w r h
to_left both_end both_end = (none, both_end, both_end)
to_left (left_text {s} m) (right_text n) = let x = to_left m n in (text s x.0, right_text x.1, left_text x.2)
to_left (left_element {n = a} {c = c} m) (right_element n) = let x = to_left m n in (element a c x.0, right_element x.1, left_element x.2)
to_left (right_text m) (right_text n) = let x = to_left m n in (x.0, x.1, right_text x.2)
to_left (right_element m) (right_element n) = let x = to_left m n in (x.0, x.1, right_element x.2)
to_left m (left_text {s} n) = let x = to_left m n in (text s x.0, left_text x.1, left_text x.2)
to_left m (left_element {n = a} {c = c} n) = let x = to_left m n in (element a c x.0, left_element x.1, left_element x.2)

module _ (g : List ElementPattern) where
  abbrev Accepts : Automaton → Trees → Type 0
  Accepts a h = AcceptsFrom (IsElementOf g) a 0 h

  texts_alone : {i k : ℕ} {h : Trees} → Run (IsElementOf g) text_automaton.edge i h k → AreTexts h
  texts_alone stay = tt
  texts_alone (step front_text e r) = texts_alone r
  texts_alone (step (front_element f) (is, from, to) r) = absurd (cc)

  run_of_texts : (h : Trees) (i : ℕ) → i ≤ 1 → AreTexts h → AcceptsFrom (IsElementOf g) text_automaton i h
  run_of_texts none i low m = (i, stay, low)
  run_of_texts (text s h) i low m = let rest = run_of_texts h 1 (omega arith) m in (rest.0, step front_text (refl, low, refl) rest.1, rest.2)
  run_of_texts (element n c h) i low m = absurd m

  no_item : {k i j : ℕ} {h : Trees} → Run (IsElementOf g) (ref_automaton k).edge i h j → i ≡ 1 → h ≡ none
  no_item stay e = refl
  no_item (step f (is, from, to) r) e = absurd (omega arith)

  one_item : {k i j : ℕ} {h : Trees} → Run (IsElementOf g) (ref_automaton k).edge i h j → i ≡ 0 → j ≡ 1 → Matches g h (p.ref k)
  one_item stay from to = absurd (omega arith)
  one_item (step front_text (is, at, goes) r) from to = absurd (cc)
  one_item {k} (step (front_element {r = m} {n} {c} {h} (e, at, inside, content)) (is, start, goes) r) from to =
      let same : m ≡ k = cc in
      subst (λ w. Matches g (element n c w) (p.ref k)) (sym (no_item r goes)) (m_ref e (subst (λ w. element_at g w ≡ Some e) same at) inside content)

  copies_match : {q : Pattern} {h : Trees} → ((k : Trees) → Accepts (automaton q) k → Matches g k q) → Copies (IsElementOf g) (automaton q) h → Repeated g h q
  copies_match f (one_copy a) = once (f _ a)
  copies_match f (more_copies is a copies) = again is (f _ a) (copies_match f copies)

  match_copies : {q : Pattern} {h : Trees} → ((k : Trees) → Matches g k q → Accepts (automaton q) k) → Repeated g h q → Copies (IsElementOf g) (automaton q) h
  match_copies f (once m) = one_copy (f _ m)
  match_copies f (again is m rest) = more_copies is (f _ m) (match_copies f rest)

  -- the empty pattern takes nothing
  no_part : (u : Trees) → Accepts empty_automaton u → u ≡ none
  no_part u (k, stay, acc) = refl
  no_part u (k, step f e r, acc) = absurd e

  alone : (u v h : Trees) → h ≡ beside u v → Accepts empty_automaton u → h ≡ v
  alone u v h is acc = is ∙ ap (λ w. beside w v) (no_part u acc)

  nothing_mixed : (h : Trees) → Shuffle none h h
  nothing_mixed none = both_end
  nothing_mixed (text s h) = right_text (nothing_mixed h)
  nothing_mixed (element n c h) = right_element (nothing_mixed h)

  all_right : {u v h : Trees} → Shuffle u v h → u ≡ none → v ≡ h
  all_right both_end e = refl
  all_right (left_text m) e = absurd (cc)
  all_right (left_element m) e = absurd (cc)
  all_right (right_text {s} m) e = ap (text s) (all_right m e)
  all_right (right_element {n} {c} m) e = ap (element n c) (all_right m e)

  alone_mixed : (u v h : Trees) → Shuffle u v h → Accepts empty_automaton u → v ≡ h
  alone_mixed u v h m acc = all_right m (no_part u acc)

  -- nothing is accepted where no pattern was chosen yet
  one_chosen : (ps : Patterns) (h : Trees) → Accepts nothing_automaton h ⊎ OneOf g h ps → OneOf g h ps
  one_chosen ps h (inl (k, r, acc)) = absurd acc
  one_chosen ps h (inr m) = m

  mutual
    takes : (q : Pattern) → Unit {1} → (h : Trees) → Accepts (automaton q) h → Matches g h q
    takes p.empty u h (k, stay, acc) = m_empty
    takes p.empty u h (k, step f e r, acc) = absurd e
    takes p.not_allowed u h (k, r, acc) = absurd acc
    takes p.text u h (k, r, acc) = m_text (texts_alone r)
    takes (p.ref k) u h (j, r, acc) = one_item r refl acc
    takes (p.group ps) u h acc = let x = takes_group ps empty_automaton empty_sound h acc in m_group (subst (λ w. InOrder g w ps) (sym (alone x.0 x.1 h x.2 x.3)) x.4)
    takes (p.choice ps) u h acc = m_choice (one_chosen ps h (takes_choice ps nothing_automaton nothing_sound h acc))
    takes (p.interleave ps) u h acc = let x = takes_interleave ps empty_automaton empty_sound h acc in m_interleave (subst (λ w. Shuffled g w ps) (alone_mixed x.0 x.1 h x.2 x.3) x.4)
    takes (p.one_or_more q) u h acc = m_one_or_more (copies_match (λ k. takes q tt k) (repeats (automaton q) acc))

    takes_group : (ps : Patterns) (a : Automaton) → IsSound a → (h : Trees) → Accepts (grouped ps a) h → (u : Trees) × (v : Trees) × (h ≡ beside u v) × Accepts a u × InOrder g v ps
    takes_group no_more a s h acc = (h, none, sym (beside_none h), acc, order_end)
    takes_group (more q qs) a s h acc =
        let x = takes_group qs (group_of a (automaton q)) (group_sound a (automaton q) s (sound q)) h acc in
        let y = splits a (automaton q) s (sound q) x.3 in
        (y.0, beside y.1 x.1, x.2 ∙ (ap (λ w. beside w x.1) y.2 ∙ beside_assoc y.0 y.1 x.1), y.3, order_more refl (takes q tt y.1 y.4) x.4)

    takes_choice : (ps : Patterns) (a : Automaton) → IsSound a → (h : Trees) → Accepts (chosen ps a) h → Accepts a h ⊎ OneOf g h ps
    takes_choice no_more a s h acc = inl acc
    takes_choice (more q qs) a s h acc = elim (takes_choice qs (choice_of a (automaton q)) (choice_sound a (automaton q) s (sound q)) h acc) [
      | inl x ↦ elim (chooses a (automaton q) s (sound q) x) [ inl y ↦ inl y | inr y ↦ inr (here (takes q tt h y)) ]
      | inr x ↦ inr (there x)
    ]

    takes_interleave : (ps : Patterns) (a : Automaton) → IsSound a → (h : Trees) → Accepts (interleaved ps a) h → (u : Trees) × (v : Trees) × Shuffle u v h × Accepts a u × Shuffled g v ps
    takes_interleave no_more a s h acc = (h, none, shuffle_whole h, acc, shuffled_end)
    takes_interleave (more q qs) a s h acc =
        let x = takes_interleave qs (interleave_of a (automaton q)) (interleave_sound a (automaton q) s (sound q)) h acc in
        let y = separates a (automaton q) s (sound q) x.3 in
        let z = to_right y.2 x.2 in
        (y.0, z.0, z.2, y.3, shuffled_more z.1 (takes q tt y.1 y.4) x.4)

  mutual
    gives : (q : Pattern) → Unit {1} → (h : Trees) → Matches g h q → Accepts (automaton q) h
    gives p.empty u h m_empty = (0, stay, refl)
    gives p.not_allowed u h m = elim m [ ]
    gives p.text u h (m_text a) = run_of_texts h 0 (omega arith) a
    gives (p.ref k) u h (m_ref e at inside m) = (1, step (front_element (e, at, inside, m)) (refl, refl, refl) stay, refl)
    gives (p.group ps) u h (m_group m) = gives_group ps empty_automaton empty_sound none h h refl (0, stay, refl) m
    gives (p.choice ps) u h (m_choice m) = gives_choice ps nothing_automaton nothing_sound h (inr m)
    gives (p.interleave ps) u h (m_interleave m) = gives_interleave ps empty_automaton empty_sound none h h (nothing_mixed h) (0, stay, refl) m
    gives (p.one_or_more q) u h (m_one_or_more m) = repeated (automaton q) (match_copies (λ k. gives q tt k) m)

    gives_group : (ps : Patterns) (a : Automaton) → IsSound a → (u v h : Trees) → h ≡ beside u v → Accepts a u → InOrder g v ps → Accepts (grouped ps a) h
    gives_group no_more a s u v h is acc order_end = subst (λ w. Accepts a w) (sym (is ∙ beside_none u)) acc
    gives_group (more q qs) a s u v h is acc (order_more {h = x} {k = y} split m rest) =
        gives_group qs (group_of a (automaton q)) (group_sound a (automaton q) s (sound q)) (beside u x) y h
        (is ∙ (ap (beside u) split ∙ sym (beside_assoc u x y))) (joins a (automaton q) s (sound q) acc (gives q tt x m)) rest

    gives_choice : (ps : Patterns) (a : Automaton) → IsSound a → (h : Trees) → Accepts a h ⊎ OneOf g h ps → Accepts (chosen ps a) h
    gives_choice no_more a s h (inl acc) = acc
    gives_choice no_more a s h (inr m) = elim m [ ]
    gives_choice (more q qs) a s h (inl acc) = gives_choice qs (choice_of a (automaton q)) (choice_sound a (automaton q) s (sound q)) h (inl (first_chosen a (automaton q) s (sound q) acc))
    gives_choice (more q qs) a s h (inr (here m)) = gives_choice qs (choice_of a (automaton q)) (choice_sound a (automaton q) s (sound q)) h (inl (second_chosen a (automaton q) s (sound q) (gives q tt h m)))
    gives_choice (more q qs) a s h (inr (there m)) = gives_choice qs (choice_of a (automaton q)) (choice_sound a (automaton q) s (sound q)) h (inr m)

    gives_interleave : (ps : Patterns) (a : Automaton) → IsSound a → (u v h : Trees) → Shuffle u v h → Accepts a u → Shuffled g v ps → Accepts (interleaved ps a) h
    gives_interleave no_more a s u v h mixed acc shuffled_end = subst (λ w. Accepts a w) (shuffle_of_whole mixed refl) acc
    gives_interleave (more q qs) a s u v h mixed acc (shuffled_more {h = x} {k = y} split m rest) =
        let z = to_left split mixed in
        gives_interleave qs (interleave_of a (automaton q)) (interleave_sound a (automaton q) s (sound q)) z.0 y h z.2 (mixes a (automaton q) s (sound q) z.1 acc (gives q tt x m)) rest

  -- a run from the start to an accepting state exists exactly where the trees match
  pub what_is_accepted_matches : (q : Pattern) (h : Trees) → Accepts (automaton q) h → Matches g h q
  what_is_accepted_matches q h = takes q tt h

  pub what_matches_is_accepted : (q : Pattern) (h : Trees) → Matches g h q → Accepts (automaton q) h
  what_matches_is_accepted q h = gives q tt h
