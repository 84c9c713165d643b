-- Edges and accepting states can be told, and sets that can be told are lists.
use Rattle.std.proofs.Common.{◌≡◌, ◌⊎◌, ◌↔◌, inl, inr, ℕ, zero, suc, ◌+◌, ◌*◌, ◌<◌, ◌≤◌, List, [], ◌∷◌, ◌++◌, Bool, true, false, length, map, filter, Option, Some, None, refl, ap, ◌∙◌, sym, subst, Contains, mul_comm, if◌then◌else◌, arith}
use Rattle.std.proofs.lemmas.Bool.{true≢false}
use Rattle.std.proofs.lemmas.Nat.{mul-add-lt}
use Rattle.std.proofs.lemmas.Option.{same_Some}
use Rattle.std.specs.List.Sorted.{IsStrictlySortedBy}
use Rattle.std.specs.Ordering.{nat_cmp}
use Rattle.std.specs.FinMap.{nat_cmp-IsAntisymmetric}
use Rattle.std.proofs.lemmas.Cmp.{nat_cmp_total}
use Rattle.tc_model.specs.Grammars as p
use Rattle.tc_model.specs.Grammars.{Grammar, Pattern, Patterns, no_more, more, ElementPattern, element_at}
use Rattle.tc_model.specs.Numbered.{numbers_below}
use Rattle.tc_model.specs.Symbols.{in_order}
use Rattle.tc_model.specs.States.{Side, input, output, Leaf, text_leaf, ref_leaf, Automaton, automaton, grouped, chosen, interleaved, group_of, choice_of, interleave_of, shift, pair, joined_edge, empty_automaton, nothing_automaton, the_start, a_content, first_state, IsEdge}
use Rattle.tc_model.proofs.StatesJoins.{IsSound}
use Rattle.tc_model.proofs.StatesExact.{sound}
use Rattle.tc_alpha.proofs.Members.{Has, has_from_contains, contains_from_has, has_front, has_back, in_order_rises, in_order_has, has_from_in_order}
use Rattle.tc_rows.specs.PairSets.{PairSet, pair_cmp, listed}
use Rattle.tc_rows.proofs.Ascending.{pairs_total, pairs_apart}
use Rattle.tc_rows.proofs.Inside.{number_within}

abbrev pub Told : Type 0 → Type 0
Told P = P ⊎ (P → ⊥)

pub told_and : {P Q : Type 0} → Told P → Told Q → Told (P × Q)
told_and (inl a) (inl b) = inl (a, b)
told_and (inl a) (inr b) = inr (λ w. b w.1)
told_and (inr a) q = inr (λ w. a w.0)

pub told_or : {P Q : Type 0} → Told P → Told Q → Told (P ⊎ Q)
told_or (inl a) q = inl (inl a)
told_or (inr a) (inl b) = inl (inr b)
told_or (inr a) (inr b) = inr (λ w. elim w [ inl c ↦ a c | inr c ↦ b c ])

pub told_as : {P Q : Type 0} → (P → Q) → (Q → P) → Told P → Told Q
told_as f g (inl a) = inl (f a)
told_as f g (inr a) = inr (λ q. a (g q))

pub told_nat : (i j : ℕ) → Told (i ≡ j)
told_nat i j = by (cases i j)
  where
    cases : (i j : ℕ) → (i ≡ j) ⊎ ((i < j) ⊎ (j < i))
    cases i j = grind arith

    by : (i ≡ j) ⊎ ((i < j) ⊎ (j < i)) → Told (i ≡ j)
    by (inl e) = inl e
    by (inr (inl l)) = inr (λ e. omega (arith, l, e))
    by (inr (inr l)) = inr (λ e. omega (arith, l, e))

pub told_less : (i j : ℕ) → Told (i < j)
told_less i j = by (cases i j)
  where
    cases : (i j : ℕ) → (i < j) ⊎ (j ≤ i)
    cases i j = grind arith

    by : (i < j) ⊎ (j ≤ i) → Told (i < j)
    by (inl l) = inl l
    by (inr l) = inr (λ m. omega (arith, l, m))

pub told_bool : (b : Bool) → Told (b ≡ true)
told_bool true = inl refl
told_bool false = inr (λ e. true≢false (sym e))

-- one below a number
pub told_some : (n : ℕ) (P : ℕ → Type 0) → ((i : ℕ) → Told (P i)) → Told ((i : ℕ) × (i < n) × P i)
told_some zero P t = inr (λ (i, l, a). omega (arith, l))
told_some (suc n) P t = by (t n) (told_some n P t)
  where
    last : (i : ℕ) → i < suc n → (i < n) ⊎ (i ≡ n)
    last i l = grind arith

    by : Told (P n) → Told ((i : ℕ) × (i < n) × P i) → Told ((i : ℕ) × (i < suc n) × P i)
    by (inl a) r = inl (n, omega arith, a)
    by (inr a) (inl (i, l, b)) = inl (i, omega (arith, l), b)
    by (inr a) (inr b) = inr (λ (i, l, c). elim (last i l) [ inl m ↦ b (i, m, c) | inr e ↦ a (subst P e c) ])

-- one where all are below a number
pub told_any : (n : ℕ) (P : ℕ → Type 0) → ((i : ℕ) → P i → i < n) → ((i : ℕ) → Told (P i)) → Told ((i : ℕ) × P i)
told_any n P low t = told_as (λ (i, l, a). (i, a)) (λ (i, a). (i, low i a, a)) (told_some n P t)

told_leaf : (l m : Leaf) → Told (l ≡ m)
told_leaf text_leaf text_leaf = inl refl
told_leaf text_leaf (ref_leaf k) = inr (λ e. cc)
told_leaf (ref_leaf k) text_leaf = inr (λ e. cc)
told_leaf (ref_leaf k) (ref_leaf m) = told_as (λ e. ap ref_leaf e) (λ e. cc) (told_nat k m)

pub record IsTold (a : Automaton) : Type 0 where
  pub edge : (i : ℕ) (l : Leaf) (j : ℕ) → Told (a.edge i l j)
  pub accepting : (j : ℕ) → Told (a.accepting j)

never : {P : Type 0} → (P → ⊥) → Told P
never f = inr f

told_most : (i j : ℕ) → Told (i ≤ j)
told_most i j = told_as (λ l. omega (arith, l)) (λ l. omega (arith, l)) (told_less i (suc j))

told_empty : IsTold empty_automaton
told_empty = record { edge = λ i l j. inr (λ e. e); accepting = λ j. told_nat j 0 }

told_nothing : IsTold nothing_automaton
told_nothing = record { edge = λ i l j. inr (λ e. e); accepting = λ j. inr (λ e. e) }

-- numbers of states stay below their count
pub record IsBounded (a : Automaton) : Type 0 where
  pub from : (i j : ℕ) (l : Leaf) → a.edge i l j → i < a.count
  pub below : (i j : ℕ) (l : Leaf) → a.edge i l j → j < a.count
  pub accepted : (j : ℕ) → a.accepting j → j < a.count

told_three : {P Q R : Type 0} → Told P → Told Q → Told R → Told (P × Q × R)
told_three p q r = told_as (λ w. (w.0, w.1.0, w.1.1)) (λ w. (w.0, (w.1, w.2))) (told_and p (told_and q r))

told_four : {P Q R S : Type 0} → Told P → Told Q → Told R → Told S → Told (P × Q × R × S)
told_four p q r s = told_as (λ w. (w.0, w.1.0, w.1.1.0, w.1.1.1)) (λ w. (w.0, (w.1, (w.2, w.3)))) (told_and p (told_and q (told_and r s)))

module _ (a b : Automaton) (sb : IsSound b) (ta : IsTold a) (tb : IsTold b) where
  told_joined : (From : ℕ → Type 0) → ((i : ℕ) → Told (From i)) → (i : ℕ) (l : Leaf) (j : ℕ) → Told (joined_edge a b From i l j)
  told_joined From f i l j =
      told_or (ta.edge i l j)
      (told_or
      (told_as (λ (x, (y, (c, d, e, g))). (x, y, c, d, e, g)) (λ (x, y, c, d, e, g). (x, (y, (c, d, e, g))))
      (told_any b.count (λ x. (y : ℕ) × ((i ≡ shift a x) × (j ≡ shift a y) × (0 < x) × b.edge x l y)) (λ x (y, (c, d, e, g)). sb.from x y l g)
      (λ x. told_any b.count (λ y. (i ≡ shift a x) × (j ≡ shift a y) × (0 < x) × b.edge x l y) (λ y (c, d, e, g). sb.below x y l g)
      (λ y. told_four (told_nat i (shift a x)) (told_nat j (shift a y)) (told_less 0 x) (tb.edge x l y)))))
      (told_as (λ (y, (c, d, e)). (y, c, d, e)) (λ (y, c, d, e). (y, (c, d, e)))
      (told_any b.count (λ y. From i × (j ≡ shift a y) × b.edge 0 l y) (λ y (c, d, e). sb.below 0 y l e) (λ y. told_three (f i) (told_nat j (shift a y)) (tb.edge 0 l y)))))

  told_ends : (j : ℕ) → Told ((y : ℕ) × (j ≡ shift a y) × (0 < y) × b.accepting y)
  told_ends j =
      told_as (λ (y, (c, d, e)). (y, c, d, e)) (λ (y, c, d, e). (y, (c, d, e)))
      (told_any b.count (λ y. (j ≡ shift a y) × (0 < y) × b.accepting y) (λ y (c, d, e). sb.accepted y e) (λ y. told_three (told_nat j (shift a y)) (told_less 0 y) (tb.accepting y)))

  told_group : IsTold (group_of a b)
  told_group = record {
    edge = told_joined a.accepting ta.accepting;
    accepting = λ j. told_or (told_ends j) (told_and (tb.accepting 0) (ta.accepting j));
  }

  told_choice : IsTold (choice_of a b)
  told_choice = record {
    edge = told_joined (λ i. i ≡ 0) (λ i. told_nat i 0);
    accepting = λ j. told_or (ta.accepting j) (told_or (told_ends j) (told_and (told_nat j 0) (tb.accepting 0)));
  }

  module _ (ba : IsBounded a) where
    pair_below : (m n x y : ℕ) → x < m → y < n → x * n + y < m * n
    pair_below m n x y p q = subst (λ w. x * n + y < w) (mul_comm n m) (mul-add-lt x n y m p q)

    interleave_from : (i j : ℕ) (l : Leaf) → (interleave_of a b).edge i l j → i < a.count * b.count
    interleave_from i j l (inl (x, z, y, is, to, low, e)) = subst (λ w. w < a.count * b.count) (sym is) (pair_below a.count b.count x y (ba.from x z l e) low)
    interleave_from i j l (inr (x, y, z, is, to, low, e)) = subst (λ w. w < a.count * b.count) (sym is) (pair_below a.count b.count x y low (sb.from y z l e))

    interleave_below : (i j : ℕ) (l : Leaf) → (interleave_of a b).edge i l j → j < a.count * b.count
    interleave_below i j l (inl (x, z, y, is, to, low, e)) = subst (λ w. w < a.count * b.count) (sym to) (pair_below a.count b.count z y (ba.below x z l e) low)
    interleave_below i j l (inr (x, y, z, is, to, low, e)) = subst (λ w. w < a.count * b.count) (sym to) (pair_below a.count b.count x z low (sb.below y z l e))

    interleave_accepted : (j : ℕ) → (interleave_of a b).accepting j → j < a.count * b.count
    interleave_accepted j (x, y, is, e, f) = subst (λ w. w < a.count * b.count) (sym is) (pair_below a.count b.count x y (ba.accepted x e) (sb.accepted y f))

    bounded_interleave : IsBounded (interleave_of a b)
    bounded_interleave = record { from = interleave_from; below = interleave_below; accepted = interleave_accepted }

    told_interleave : IsTold (interleave_of a b)
    told_interleave = record {
      edge = λ i l j.
          told_or
          (told_as (λ (x, (z, (y, (c, d, e, f)))). (x, z, y, c, d, e, f)) (λ (x, z, y, c, d, e, f). (x, (z, (y, (c, d, e, f)))))
          (told_any a.count (λ x. (z : ℕ) × ((y : ℕ) × ((i ≡ pair b x y) × (j ≡ pair b z y) × (y < b.count) × a.edge x l z))) (λ x (z, (y, (c, d, e, f))). ba.from x z l f)
          (λ x. told_any a.count (λ z. (y : ℕ) × ((i ≡ pair b x y) × (j ≡ pair b z y) × (y < b.count) × a.edge x l z)) (λ z (y, (c, d, e, f)). ba.below x z l f)
          (λ z. told_any b.count (λ y. (i ≡ pair b x y) × (j ≡ pair b z y) × (y < b.count) × a.edge x l z) (λ y (c, d, e, f). e)
          (λ y. told_four (told_nat i (pair b x y)) (told_nat j (pair b z y)) (told_less y b.count) (ta.edge x l z))))))
          (told_as (λ (x, (y, (z, (c, d, e, f)))). (x, y, z, c, d, e, f)) (λ (x, y, z, c, d, e, f). (x, (y, (z, (c, d, e, f)))))
          (told_any a.count (λ x. (y : ℕ) × ((z : ℕ) × ((i ≡ pair b x y) × (j ≡ pair b x z) × (x < a.count) × b.edge y l z))) (λ x (y, (z, (c, d, e, f))). e)
          (λ x. told_any b.count (λ y. (z : ℕ) × ((i ≡ pair b x y) × (j ≡ pair b x z) × (x < a.count) × b.edge y l z)) (λ y (z, (c, d, e, f)). sb.from y z l f)
          (λ y. told_any b.count (λ z. (i ≡ pair b x y) × (j ≡ pair b x z) × (x < a.count) × b.edge y l z) (λ z (c, d, e, f). sb.below y z l f)
          (λ z. told_four (told_nat i (pair b x y)) (told_nat j (pair b x z)) (told_less x a.count) (tb.edge y l z))))));
      accepting = λ j.
          told_as (λ (x, (y, (c, d, e))). (x, y, c, d, e)) (λ (x, y, c, d, e). (x, (y, (c, d, e))))
          (told_any a.count (λ x. (y : ℕ) × ((j ≡ pair b x y) × a.accepting x × b.accepting y)) (λ x (y, (c, d, e)). ba.accepted x d)
          (λ x. told_any b.count (λ y. (j ≡ pair b x y) × a.accepting x × b.accepting y) (λ y (c, d, e). sb.accepted y e)
          (λ y. told_three (told_nat j (pair b x y)) (ta.accepting x) (tb.accepting y))));
    }

bounded_empty : IsBounded empty_automaton
bounded_empty = record { from = λ i j l e. absurd e; below = λ i j l e. absurd e; accepted = λ j e. omega (arith, e) }

mutual
  told_of : (q : Pattern) → Unit {1} → IsTold (automaton q)
  told_of p.empty u = told_empty
  told_of p.not_allowed u = told_nothing
  told_of p.text u = record { edge = λ i l j. told_three (told_leaf l text_leaf) (told_most i 1) (told_nat j 1); accepting = λ j. told_most j 1 }
  told_of (p.ref k) u = record { edge = λ i l j. told_three (told_leaf l (ref_leaf k)) (told_nat i 0) (told_nat j 1); accepting = λ j. told_nat j 1 }
  told_of (p.group ps) u = told_groups ps empty_automaton told_empty
  told_of (p.choice ps) u = told_choices ps nothing_automaton told_nothing
  told_of (p.interleave ps) u = told_interleaves ps empty_automaton bounded_empty told_empty
  told_of (p.one_or_more q) u =
      let t = told_of q tt in
      record { edge = λ i l j. told_or (t.edge i l j) (told_and (t.accepting i) (t.edge 0 l j)); accepting = t.accepting }

  told_groups : (ps : Patterns) (a : Automaton) → IsTold a → IsTold (grouped ps a)
  told_groups no_more a t = t
  told_groups (more q qs) a t = told_groups qs (group_of a (automaton q)) (told_group a (automaton q) (sound q) t (told_of q tt))

  told_choices : (ps : Patterns) (a : Automaton) → IsTold a → IsTold (chosen ps a)
  told_choices no_more a t = t
  told_choices (more q qs) a t = told_choices qs (choice_of a (automaton q)) (told_choice a (automaton q) (sound q) t (told_of q tt))

  told_interleaves : (ps : Patterns) (a : Automaton) → IsBounded a → IsTold a → IsTold (interleaved ps a)
  told_interleaves no_more a b t = t
  told_interleaves (more q qs) a b t =
      told_interleaves qs (interleave_of a (automaton q)) (bounded_interleave a (automaton q) (sound q) t (told_of q tt) b) (told_interleave a (automaton q) (sound q) t (told_of q tt) b)

pub told_accepting : (q : Pattern) (j : ℕ) → Told ((automaton q).accepting j)
told_accepting q j = (told_of q tt).accepting j

-- an edge of one of the contents or of the start
module _ (g : Grammar) (side : Side) where
  part_edge : (k : ℕ) (q : Pattern) → (i : ℕ) (l : Leaf) (j : ℕ) → Told ((x : ℕ) × ((y : ℕ) × ((i ≡ first_state g side k + x) × (j ≡ first_state g side k + y) × (automaton q).edge x l y)))
  part_edge k q i l j =
      let s = sound q in
      told_any (automaton q).count (λ x. (y : ℕ) × ((i ≡ first_state g side k + x) × (j ≡ first_state g side k + y) × (automaton q).edge x l y)) (λ x (y, (c, d, e)). s.from x y l e)
      (λ x. told_any (automaton q).count (λ y. (i ≡ first_state g side k + x) × (j ≡ first_state g side k + y) × (automaton q).edge x l y) (λ y (c, d, e). s.below x y l e)
      (λ y. told_three (told_nat i (first_state g side k + x)) (told_nat j (first_state g side k + y)) ((told_of q tt).edge x l y)))

  -- one of the contents
  content_edge : (k : ℕ) (i : ℕ) (l : Leaf) (j : ℕ)
      → Told ((e : ElementPattern) × ((element_at g.elements k ≡ Some e) × ((x : ℕ) × ((y : ℕ) × ((i ≡ first_state g side k + x) × (j ≡ first_state g side k + y) × (automaton e.content).edge x l y)))))
  content_edge k i l j = by (element_at g.elements k) refl
    where
      by : (o : Option ElementPattern) → element_at g.elements k ≡ o
          → Told ((e : ElementPattern) × ((element_at g.elements k ≡ Some e) × ((x : ℕ) × ((y : ℕ) × ((i ≡ first_state g side k + x) × (j ≡ first_state g side k + y) × (automaton e.content).edge x l y)))))
      by None at = inr (λ (e, (is, w)). let no : None ≡ Some e = sym at ∙ is in cc)
      by (Some e) at = elim (part_edge k e.content i l j) [
        | inl w ↦ inl (e, (at, w))
        | inr f ↦ inr (λ (d, (is, w)). f (subst (λ (c : ElementPattern). (x : ℕ) × ((y : ℕ) × ((i ≡ first_state g side k + x) × (j ≡ first_state g side k + y) × (automaton c.content).edge x l y))) (same_Some d e (sym is ∙ at)) w))
      ]

  contents_edge : (i : ℕ) (l : Leaf) (j : ℕ)
      → Told ((k : ℕ) × ((e : ElementPattern) × ((element_at g.elements k ≡ Some e) × ((x : ℕ) × ((y : ℕ) × ((i ≡ first_state g side k + x) × (j ≡ first_state g side k + y) × (automaton e.content).edge x l y))))))
  contents_edge i l j =
      told_any (suc (length g.elements)) _ (λ k (e, (at, w)). let (low, high) = number_within g.elements k e at in omega (arith, high)) (λ k. content_edge k i l j)

module _ (g : Grammar) where
  of_input : {i j : ℕ} {l : Leaf} → IsEdge g input i l j
      → (k : ℕ) × ((e : ElementPattern) × ((element_at g.elements k ≡ Some e) × ((x : ℕ) × ((y : ℕ) × ((i ≡ first_state g input k + x) × (j ≡ first_state g input k + y) × (automaton e.content).edge x l y)))))
  of_input (k, q, x, y, a_content {e = e} at, a, b, c) = (k, (e, (at, (x, (y, (a, b, c))))))

  pub told_input_edge : (i : ℕ) (l : Leaf) (j : ℕ) → Told (IsEdge g input i l j)
  told_input_edge i l j = told_as (λ (k, (e, (at, (x, (y, (a, b, c)))))). (k, e.content, x, y, a_content at, a, b, c)) of_input (contents_edge g input i l j)

  abbrev StartEdge : ℕ → Leaf → ℕ → Type 0
  StartEdge i l j = (x : ℕ) × ((y : ℕ) × ((i ≡ first_state g output 0 + x) × (j ≡ first_state g output 0 + y) × (automaton g.start).edge x l y))

  of_output : {i j : ℕ} {l : Leaf} → IsEdge g output i l j
      → StartEdge i l j
      ⊎ ((k : ℕ) × ((e : ElementPattern) × ((element_at g.elements k ≡ Some e) × ((x : ℕ) × ((y : ℕ) × ((i ≡ first_state g output k + x) × (j ≡ first_state g output k + y) × (automaton e.content).edge x l y))))))
  of_output (k, q, x, y, the_start, a, b, c) = inl (x, (y, (a, b, c)))
  of_output (k, q, x, y, a_content {e = e} at, a, b, c) = inr (k, (e, (at, (x, (y, (a, b, c))))))

  to_output : {i j : ℕ} {l : Leaf}
      → StartEdge i l j
      ⊎ ((k : ℕ) × ((e : ElementPattern) × ((element_at g.elements k ≡ Some e) × ((x : ℕ) × ((y : ℕ) × ((i ≡ first_state g output k + x) × (j ≡ first_state g output k + y) × (automaton e.content).edge x l y))))))
      → IsEdge g output i l j
  to_output (inl (x, (y, (a, b, c)))) = (0, g.start, x, y, the_start, a, b, c)
  to_output (inr (k, (e, (at, (x, (y, (a, b, c))))))) = (k, e.content, x, y, a_content at, a, b, c)

  pub told_output_edge : (i : ℕ) (l : Leaf) (j : ℕ) → Told (IsEdge g output i l j)
  told_output_edge i l j = told_as to_output of_output (told_or (part_edge g output 0 g.start i l j) (contents_edge g output i l j))

-- sets that can be told, as lists in order
abbrev yes : {P : Type 0} → Told P → Bool
yes (inl a) = true
yes (inr a) = false

abbrev kept : {X : Type 0} (P : X → Type 0) → ((y : X) → Told (P y)) → List X → List X
kept P t xs = filter (λ y. yes (t y)) xs

module _ {X : Type 0} (P : X → Type 0) (t : (y : X) → Told (P y)) where
  kept_has : (xs : List X) (y : X) → Has xs y → P y → Has (kept P t xs) y
  kept_has [] y h a = absurd h
  kept_has (x ∷ xs) y h a = by (t x) refl h (λ k. kept_has xs y k a)
    where
      by : (w : Told (P x)) → t x ≡ w → Has (x ∷ xs) y → (Has xs y → Has (kept P t xs) y) → Has (if yes w then (x ∷ kept P t xs) else kept P t xs) y
      by (inl c) e (inl same) later = inl same
      by (inl c) e (inr k) later = inr (later k)
      by (inr c) e (inl same) later = absurd (c (subst P (sym same) a))
      by (inr c) e (inr k) later = later k

  has_kept : (xs : List X) (y : X) → Has (kept P t xs) y → P y
  has_kept [] y h = absurd h
  has_kept (x ∷ xs) y h = by (t x) h (has_kept xs y)
    where
      by : (w : Told (P x)) → Has (if yes w then (x ∷ kept P t xs) else kept P t xs) y → (Has (kept P t xs) y → P y) → P y
      by (inl c) (inl same) later = subst P same c
      by (inl c) (inr k) later = later k
      by (inr c) k later = later k

has_below : (n i : ℕ) → i < n → Has (numbers_below n) i
has_below zero i l = absurd (omega (arith, l))
has_below (suc n) i l = elim (cases i n l) [ inl m ↦ has_front (numbers_below n) (n ∷ []) i (has_below n i m) | inr e ↦ has_back (numbers_below n) (n ∷ []) i (inl (sym e)) ]
  where
    cases : (i n : ℕ) → i < suc n → (i < n) ⊎ (i ≡ n)
    cases i n l = grind arith

-- a set of numbers below a bound
pub record IsSetOf (P : ℕ → Type 0) (xs : List ℕ) : Type 0 where
  pub ascend : IsStrictlySortedBy nat_cmp xs
  pub has : (j : ℕ) → Contains xs j ↔ P j

pub set_of : (n : ℕ) (P : ℕ → Type 0) → ((j : ℕ) → P j → j < n) → ((j : ℕ) → Told (P j)) → (xs : List ℕ) × IsSetOf P xs
set_of n P low t =
    let ks = kept P t (numbers_below n) in (
      in_order nat_cmp ks,
      record {
        ascend = in_order_rises nat_cmp_total nat_cmp-IsAntisymmetric ks;
        has = λ j. (
          λ c. has_kept P t (numbers_below n) j (has_from_in_order nat_cmp_total nat_cmp-IsAntisymmetric ks j (has_from_contains (in_order nat_cmp ks) j c)),
          λ a. contains_from_has (in_order nat_cmp ks) j (in_order_has nat_cmp_total nat_cmp-IsAntisymmetric ks j (kept_has P t (numbers_below n) j (has_below n j (low j a)) a)),
        );
      },
    )

-- and of pairs
abbrev at : ℕ → ℕ → ℕ × ℕ
at i j = (i, j)

abbrev pairs_below : ℕ → List ℕ → List (ℕ × ℕ)
pairs_below n [] = []
pairs_below n (i ∷ is) = map (at i) (numbers_below n) ++ pairs_below n is

has_mapped : (i : ℕ) (js : List ℕ) (j : ℕ) → Has js j → Has (map (at i) js) (at i j)
has_mapped i [] j h = absurd h
has_mapped i (k ∷ js) j (inl e) = inl (ap (at i) e)
has_mapped i (k ∷ js) j (inr h) = inr (has_mapped i js j h)

has_pair : (n : ℕ) (is : List ℕ) (i j : ℕ) → Has is i → j < n → Has (pairs_below n is) (at i j)
has_pair n [] i j h l = absurd h
has_pair n (k ∷ is) i j (inl e) l = subst (λ w. Has (pairs_below n (w ∷ is)) (at i j)) (sym e) (has_front (map (at i) (numbers_below n)) (pairs_below n is) (at i j) (has_mapped i (numbers_below n) j (has_below n j l)))
has_pair n (k ∷ is) i j (inr h) l = has_back (map (at k) (numbers_below n)) (pairs_below n is) (at i j) (has_pair n is i j h l)

pub record IsPairSetOf (r : PairSet) (xs : List (ℕ × ℕ)) : Type 0 where
  pub ascend : IsStrictlySortedBy pair_cmp xs
  pub has : (i j : ℕ) → listed xs i j ↔ r i j

pub pair_set_of : (n : ℕ) (r : PairSet) → ((i j : ℕ) → r i j → (i < n) × (j < n)) → ((i j : ℕ) → Told (r i j)) → (xs : List (ℕ × ℕ)) × IsPairSetOf r xs
pair_set_of n r low t =
    let all = pairs_below n (numbers_below n) in
    let ks = kept (λ (p : ℕ × ℕ). r p.0 p.1) (λ p. t p.0 p.1) all in (
      in_order pair_cmp ks,
      record {
        ascend = in_order_rises pairs_total pairs_apart ks;
        has = λ i j. (
          λ c. has_kept (λ (p : ℕ × ℕ). r p.0 p.1) (λ p. t p.0 p.1) all (at i j) (has_from_in_order pairs_total pairs_apart ks (at i j) (has_from_contains (in_order pair_cmp ks) (at i j) c)),
          λ a.
              let (first, second) = low i j a in
              contains_from_has (in_order pair_cmp ks) (at i j)
              (in_order_has pairs_total pairs_apart ks (at i j) (kept_has (λ (p : ℕ × ℕ). r p.0 p.1) (λ p. t p.0 p.1) all (at i j) (has_pair n (numbers_below n) i j (has_below n i first) second) a)),
        );
      },
    )
