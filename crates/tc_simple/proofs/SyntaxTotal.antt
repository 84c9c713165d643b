-- A syntax tree has a grammar or a fault.
use Rattle.std.proofs.Common.{◌≡◌, ◌⊎◌, inl, inr, ℕ, zero, suc, ◌+◌, ◌<◌, ◌≤◌, Bool, true, false, cond, List, [], ◌∷◌, ◌++◌, refl, ap, ◌∙◌, sym, subst, length, arith, map, Option, None, Some, bytes_eq}
use Rattle.std.specs.List.{AllByRecursion, Contains, filter_map}
use Rattle.std.proofs.lemmas.Bool.{false≢true, true≢false}
use Rattle.tc_model.specs.Grammars as g
use Rattle.tc_model.specs.Grammars.{Pattern, Patterns, ElementPattern, Grammar}
use Rattle.tc_model.specs.CompactSyntaxTrees.{SyntaxClass, SyntaxPattern, empty, not_allowed, text, attribute, ref, element, mixed, optional, zero_or_more, one_or_more, group, choice, interleave, SyntaxPatterns, no_more, more, Definition, Syntax}
use Rattle.tc_model.specs.CompactSyntaxLawful.{places_of, AscendFrom, IsLawfulSyntax}
use Rattle.tc_model.specs.SimplifiesParts.{definitions_of, joined_definitions, pattern_of, nodes_in, nodes_of, IsAmong, IsOpenPart, Below, Reached}
use Rattle.tc_model.specs.SimplifiesParts as m
use Rattle.tc_model.specs.SimplifiesFaults.{twice_at, undefined_at, undefined_reference, unless_defined, first_answer, IsCircular, IsLoop, IsAcyclic, bad_except_at, may_start, first_definition, IsBadStart, Fault, twice, undefined, loop, bad_except, bad_start, Fails, IsFaultless}
use Rattle.tc_model.specs.Simplifies.{Element, name_class, Becomes, an_empty, a_not_allowed, a_text, an_attribute, a_reference, an_element, a_mixed, an_optional, a_zero_or_more, a_one_or_more, a_group, a_choice, an_interleave, AllBecome, none_left, one_more, ElementsBecome, no_element, next, AreAscending, Simplifies}
use Rattle.tc_model.proofs.SimplifiesUnique.{Has, here, there}
use Rattle.tc_model.proofs.CompactSyntaxClassesUnique.{same_some, some_none}
use Rattle.tc_rnc.proofs.Deciding as d
use Rattle.tc_rnc.proofs.Deciding.{Decided, decided_by}
use Rattle.tc_simple.specs.Nodes.{nodes, element_of}
use Rattle.tc_simple.proofs.Answered.{no_answer, one_answer}
use Rattle.tc_simple.proofs.Gathering.{bytes_are, same_bytes}
use Rattle.tc_simple.proofs.NamePaths.{any_of, least_below, Path, step, via, path_here}
use Rattle.tc_simple.proofs.Numbering.{has_chosen, chosen_has, body_part, in_joined, Lies, lies, join_all, weaker, join_ascending, firsts, places_are, element_is}
use Rattle.tc_simple.proofs.Standing.{has_left, has_right, has_cases, has_first, none_has, either, has_contains, has_filter, filter_has, node_self, part_node, node_within, node_below, node_reached}
use Rattle.tc_simple.proofs.Whole.{nodes_same, in_all_nodes, none_answers}

truth : {P : Type 0} → Decided P → Bool
truth (inl p) = true
truth (inr h) = false

from_truth : {P : Type 0} (x : Decided P) → truth x ≡ true → P
unfolding truth
from_truth (inl p) e = p
from_truth (inr h) e = absurd (false≢true e)

to_truth : {P : Type 0} (x : Decided P) → P → truth x ≡ true
unfolding truth
to_truth (inl p) q = refl
to_truth (inr h) q = absurd (h q)

-- References.

ref_name : {n k : List ℕ} {p q : ℕ} → ref n p ≡ ref k q → n ≡ k
ref_name e = cc

ref_place : {n k : List ℕ} {p q : ℕ} → ref n p ≡ ref k q → p ≡ q
ref_place e = cc

-- a reference to this name
abbrev RefersBy : List ℕ → SyntaxPattern → Type 0
RefersBy n q = (place : ℕ) × (q ≡ ref n place)

refers_by : (n : List ℕ) (q : SyntaxPattern) → Decided (RefersBy n q)
refers_by n (ref k place) = decided_by (λ e. (place, ap (λ z. ref z place) e)) (λ z. ref_name z.1) (d.bytes_are k n)
refers_by n empty = inr no
  where
    no : RefersBy n empty → ⊥
    no (p, e) = cc
refers_by n not_allowed = inr no
  where
    no : RefersBy n not_allowed → ⊥
    no (p, e) = cc
refers_by n text = inr no
  where
    no : RefersBy n text → ⊥
    no (p, e) = cc
refers_by n attribute = inr no
  where
    no : RefersBy n attribute → ⊥
    no (p, e) = cc
refers_by n (element k c q) = inr no
  where
    no : RefersBy n (element k c q) → ⊥
    no (p, e) = cc
refers_by n (mixed q) = inr no
  where
    no : RefersBy n (mixed q) → ⊥
    no (p, e) = cc
refers_by n (optional q) = inr no
  where
    no : RefersBy n (optional q) → ⊥
    no (p, e) = cc
refers_by n (zero_or_more q) = inr no
  where
    no : RefersBy n (zero_or_more q) → ⊥
    no (p, e) = cc
refers_by n (one_or_more q) = inr no
  where
    no : RefersBy n (one_or_more q) → ⊥
    no (p, e) = cc
refers_by n (group qs) = inr no
  where
    no : RefersBy n (group qs) → ⊥
    no (p, e) = cc
refers_by n (choice qs) = inr no
  where
    no : RefersBy n (choice qs) → ⊥
    no (p, e) = cc
refers_by n (interleave qs) = inr no
  where
    no : RefersBy n (interleave qs) → ⊥
    no (p, e) = cc

-- this reference
is_reference : (n : List ℕ) (place : ℕ) (q : SyntaxPattern) → Decided (q ≡ ref n place)
is_reference n place q = by (refers_by n q)
  where
    at : (k : ℕ) → q ≡ ref n k → Decided (k ≡ place) → Decided (q ≡ ref n place)
    at k e (inl same) = inl (e ∙ ap (λ z. ref n z) same)
    at k e (inr h) = inr (λ f. h (ref_place (sym e ∙ f)))

    by : Decided (RefersBy n q) → Decided (q ≡ ref n place)
    by (inl (k, e)) = at k e (d.number_is k place)
    by (inr h) = inr (λ e. h (place, e))

-- the places of references, summed up
places_sum : List SyntaxPattern → ℕ
places_sum [] = 0
places_sum (ref n place ∷ qs) = place + places_sum qs
places_sum (q ∷ qs) = places_sum qs

place_within : (n : List ℕ) (place : ℕ) (qs : List SyntaxPattern) → Has qs (ref n place) → place ≤ places_sum qs
unfolding places_sum
place_within n place [] h = absurd (none_has h)
place_within n place (q ∷ qs) h = by q (has_first h) (place_within n place qs)
  where
    by : (q : SyntaxPattern) → (ref n place ≡ q) ⊎ Has qs (ref n place) → (Has qs (ref n place) → place ≤ places_sum qs) → place ≤ places_sum (q ∷ qs)
    by q (inl e) f = let first : place ≤ place + places_sum qs = omega arith in subst (λ z. place ≤ places_sum (z ∷ qs)) e first
    by (ref k p) (inr h) f = omega (arith, f h)
    by empty (inr h) f = f h
    by not_allowed (inr h) f = f h
    by text (inr h) f = f h
    by attribute (inr h) f = f h
    by (element k c p) (inr h) f = f h
    by (mixed p) (inr h) f = f h
    by (optional p) (inr h) f = f h
    by (zero_or_more p) (inr h) f = f h
    by (one_or_more p) (inr h) f = f h
    by (group ps) (inr h) f = f h
    by (choice ps) (inr h) f = f h
    by (interleave ps) (inr h) f = f h

has_map : {X Y : Type 0} (f : X → Y) {x : X} {xs : List X} → Has xs x → Has (map f xs) (f x)
has_map f here = here
has_map f (there k) = there (has_map f k)

module _ (s : Syntax) where
  abbrev names : List (List ℕ)
  names = map (λ x. x.name) s.definitions

  -- a name with a definition
  named : {a : List ℕ} {p : SyntaxPattern} → pattern_of s a ≡ Some p → Has names a
  named {a} {p} e = by (definitions_of s.definitions a) refl
    where
      of_first : (x : Definition) → Has s.definitions x × (bytes_eq x.name a ≡ true) → Has names a
      of_first x (h, same) = subst (λ z. Has names z) (bytes_are x.name a same) (has_map (λ y. y.name) h)

      by : (es : List Definition) → definitions_of s.definitions a ≡ es → Has names a
      by [] f = absurd (some_none e (ap joined_definitions f))
      by (x ∷ es) f = of_first x (chosen_has a s.definitions x (subst (λ z. Has z x) (sym f) here))

  -- a pattern stands in what a name stands for; within its elements too, or not
  abbrev At : Bool → List ℕ → SyntaxPattern → Type 0
  At w a q = (p : SyntaxPattern) × ((pattern_of s a ≡ Some p) × Has (nodes w p) q)

  abbrev Refers : Bool → List ℕ → List ℕ → Type 0
  Refers w a b = (place : ℕ) × At w a (ref b place)

  at_here : (w : Bool) (P : SyntaxPattern → Type 0) → ((q : SyntaxPattern) → Decided (P q)) → (a : List ℕ) → Decided ((q : SyntaxPattern) × (At w a q × P q))
  at_here w P decide a = by (pattern_of s a) refl
    where
      among : (p : SyntaxPattern) → pattern_of s a ≡ Some p → ((q : SyntaxPattern) × (Has (nodes w p) q × P q)) ⊎ ((q : SyntaxPattern) → Has (nodes w p) q → P q → ⊥) → Decided ((q : SyntaxPattern) × (At w a q × P q))
      among p e (inl (q, (h, x))) = inl (q, ((p, (e, h)), x))
      among p e (inr none) = inr (λ z. no z)
        where
          no : (q : SyntaxPattern) × (At w a q × P q) → ⊥
          no (q, ((r, (f, h)), x)) = none q (subst (λ z. Has (nodes w z) q) (same_some f e) h) x

      by : (o : Option SyntaxPattern) → pattern_of s a ≡ o → Decided ((q : SyntaxPattern) × (At w a q × P q))
      by (Some p) e = among p e (any_of P decide (nodes w p))
      by None e = inr (λ z. no z)
        where
          no : (q : SyntaxPattern) × (At w a q × P q) → ⊥
          no (q, ((r, (f, h)), x)) = some_none f e

  refers_here : (w : Bool) (a b : List ℕ) → Decided (Refers w a b)
  refers_here w a b = decided_by to from (at_here w (RefersBy b) (refers_by b) a)
    where
      to : (q : SyntaxPattern) × (At w a q × RefersBy b q) → Refers w a b
      to (q, ((p, (e, h)), (place, is))) = (place, (p, (e, subst (λ z. Has (nodes w p) z) is h)))

      from : Refers w a b → (q : SyntaxPattern) × (At w a q × RefersBy b q)
      from (place, at) = (ref b place, (at, (place, refl)))

  reference_here : (w : Bool) (a n : List ℕ) (place : ℕ) → Decided (At w a (ref n place))
  reference_here w a n place = decided_by to from (at_here w (λ q. q ≡ ref n place) (is_reference n place) a)
    where
      to : (q : SyntaxPattern) × (At w a q × (q ≡ ref n place)) → At w a (ref n place)
      to (q, (at, e)) = subst (At w a) e at

      from : At w a (ref n place) → (q : SyntaxPattern) × (At w a q × (q ≡ ref n place))
      from at = (ref n place, (at, refl))

  -- one name leads to another, or is it
  abbrev Leads : Bool → List ℕ → List ℕ → Type 0
  Leads w a b = (a ≡ b) ⊎ Path (Refers w) names a b

  leads_here : (w : Bool) (a b : List ℕ) → Decided (Leads w a b)
  leads_here w a b = by (d.bytes_are a b) (path_here (Refers w) (refers_here w) names a b)
    where
      by : Decided (a ≡ b) → Decided (Path (Refers w) names a b) → Decided (Leads w a b)
      by (inl e) k = inl (inl e)
      by (inr h) (inl p) = inl (inr p)
      by (inr h) (inr k) = inr none
        where
          none : Leads w a b → ⊥
          none (inl e) = h e
          none (inr p) = k p

  -- what leads on has a definition
  path_named : {w : Bool} {a b : List ℕ} → Path (Refers w) names a b → Has names a
  path_named (step (place, (p, (e, h)))) = named e
  path_named (via (place, (p, (e, h))) m q) = named e

  path_then : {w : Bool} {a b c : List ℕ} → Path (Refers w) names a b → Path (Refers w) names b c → Path (Refers w) names a c
  path_then (step e) q = via e (path_named q) q
  path_then (via e m p) q = via e m (path_then p q)

  leads_then : {w : Bool} {a b c : List ℕ} → Leads w a b → Leads w b c → Leads w a c
  leads_then {w} {c = c} (inl e) q = subst (λ z. Leads w z c) (sym e) q
  leads_then {w} {a} (inr p) (inl e) = inr (subst (λ z. Path (Refers w) names a z) e p)
  leads_then (inr p) (inr q) = inr (path_then p q)

  named_at : (w : Bool) (a : List ℕ) (p : SyntaxPattern) → pattern_of s a ≡ Some p → At w a p
  named_at w a p e = (p, (e, node_self w p))

  at_part : (w : Bool) (a : List ℕ) (p q : SyntaxPattern) → At w a p → IsOpenPart p q → At w a q
  at_part w a p q (r, (e, h)) part = (r, (e, node_within w r p q h (part_node w p q part)))

  -- by references alone
  below_at : {p q : SyntaxPattern} → Below s p q → (a : List ℕ) → At false a p → (b : List ℕ) × (Leads false a b × At false b q)
  below_at {p} {q} (m.part part) a at = (a, (inl refl, at_part false a p q at part))
  below_at {p} {q} (m.reference {n = n} {place = place} e) a at = (n, (inr (step (place, at)), named_at false n q e))
  below_at (m.further x y) a at =
      let (b, (l, mid)) = below_at x a at in
      let (c, (k, last)) = below_at y b mid in
      (c, (leads_then l k, last))

  below_reference : {p q : SyntaxPattern} (n : List ℕ) (place : ℕ) → Below s p q → p ≡ ref n place → (b : List ℕ) × (Leads false n b × At false b q)
  below_reference {p} {q} n place (m.part part) e = let none : IsOpenPart (ref n place) q = subst (λ z. IsOpenPart z q) e part in absurd none
  below_reference {p} {q} n place (m.reference f) e = (n, (inl refl, named_at false n q (ap (pattern_of s) (sym (ref_name e)) ∙ f)))
  below_reference n place (m.further x y) e =
      let (b, (l, mid)) = below_reference n place x e in
      let (c, (k, last)) = below_at y b mid in
      (c, (leads_then l k, last))

  step_below : (a : List ℕ) {b : List ℕ} {p q : SyntaxPattern} → Refers false a b → pattern_of s a ≡ Some p → pattern_of s b ≡ Some q → Below s p q
  step_below a {b} {p} {q} (place, (r, (e, h))) is to = by (node_below s p (ref b place) (subst (λ z. Has (nodes false z) (ref b place)) (same_some e is) h))
    where
      by : (ref b place ≡ p) ⊎ Below s p (ref b place) → Below s p q
      by (inl same) = subst (λ z. Below s z q) same (m.reference to)
      by (inr x) = m.further x (m.reference to)

  path_pattern : {w : Bool} {a b : List ℕ} → Path (Refers w) names a b → (p : SyntaxPattern) × (pattern_of s a ≡ Some p)
  path_pattern (step (place, (p, (e, h)))) = (p, e)
  path_pattern (via (place, (p, (e, h))) m q) = (p, e)

  path_below : {a b : List ℕ} {p q : SyntaxPattern} → Path (Refers false) names a b → pattern_of s a ≡ Some p → pattern_of s b ≡ Some q → Below s p q
  path_below {a} (step x) is to = step_below a x is to
  path_below {a} (via x k r) is to = let (o, at) = path_pattern r in m.further (step_below a x is at) (path_below r at to)

  leads_below : {a b : List ℕ} {p q : SyntaxPattern} → Leads false a b → pattern_of s a ≡ Some p → pattern_of s b ≡ Some q → (q ≡ p) ⊎ Below s p q
  leads_below (inl e) is to = inl (same_some (ap (pattern_of s) e ∙ to) is)
  leads_below (inr r) is to = inr (path_below r is to)

  leads_pattern : {w : Bool} {a b : List ℕ} {q : SyntaxPattern} → Leads w a b → At w b q → (p : SyntaxPattern) × (pattern_of s a ≡ Some p)
  leads_pattern (inl e) (p, (is, h)) = (p, ap (pattern_of s) e ∙ is)
  leads_pattern (inr r) at = path_pattern r

  -- by references and elements
  reached_at : {q : SyntaxPattern} → Reached s q → (a : List ℕ) × (Leads true [] a × At true a q)
  reached_at {q} (m.at_start e) = ([], (inl refl, named_at true [] q e))
  reached_at {q} (m.part {p = p} r part) = let (a, (l, at)) = reached_at r in (a, (l, at_part true a p q at part))
  reached_at {q} (m.reference {n = n} {place = place} r e) =
      let (a, (l, at)) = reached_at r in
      (n, (leads_then l (inr (step (place, at))), named_at true n q e))
  reached_at {q} (m.content {place = place} {c = c} r) =
      let (a, (l, (p, (e, h)))) = reached_at r in
      (a, (l, (p, (e, node_within true p (element place c q) q h (there (node_self true q))))))

  path_reached : {a b : List ℕ} {q : SyntaxPattern} → Path (Refers true) names a b → ((p : SyntaxPattern) → pattern_of s a ≡ Some p → Reached s p) → pattern_of s b ≡ Some q → Reached s q
  path_reached {b = b} (step (place, (p, (e, h)))) f to = m.reference (node_reached s p (ref b place) (f p e) h) to
  path_reached (via {z = z} (place, (p, (e, h))) k r) f to = path_reached r (λ o is. m.reference (node_reached s p (ref z place) (f p e) h) is) to

  leads_reached : {a : List ℕ} {q : SyntaxPattern} → Leads true [] a → pattern_of s a ≡ Some q → Reached s q
  leads_reached (inl e) to = m.at_start (ap (pattern_of s) e ∙ to)
  leads_reached (inr r) to = path_reached r (λ p e. m.at_start e) to

  at_reached : {a : List ℕ} {q : SyntaxPattern} → Leads true [] a → At true a q → Reached s q
  at_reached {q = q} l (p, (e, h)) = node_reached s p q (leads_reached l e) h

  -- Loops.

  abbrev Circular : ℕ → List ℕ → Type 0
  Circular place n = Reached s (ref n place) × Below s (ref n place) (ref n place)

  reached_here : (n : List ℕ) (place : ℕ) → Decided (Reached s (ref n place))
  reached_here n place = by (any_of (λ a. Leads true [] a × At true a (ref n place)) (λ a. d.both (leads_here true [] a) (reference_here true a n place)) names)
    where
      by : ((a : List ℕ) × (Has names a × (Leads true [] a × At true a (ref n place)))) ⊎ ((a : List ℕ) → Has names a → Leads true [] a × At true a (ref n place) → ⊥) → Decided (Reached s (ref n place))
      by (inl (a, (h, (l, at)))) = inl (at_reached l at)
      by (inr none) = inr (λ r. let (a, (l, (p, (e, h)))) = reached_at r in none a (named e) (l, (p, (e, h))))

  cycle_here : (n : List ℕ) (place : ℕ) → Decided (Below s (ref n place) (ref n place))
  cycle_here n place = by (any_of (λ b. Leads false n b × At false b (ref n place)) (λ b. d.both (leads_here false n b) (reference_here false b n place)) names)
    where
      close : {b : List ℕ} → Leads false n b → At false b (ref n place) → Below s (ref n place) (ref n place)
      close l (q, (to, h)) =
          let (p, is) = leads_pattern l (q, (to, h)) in
          last p is q h (leads_below l is to) (node_below s q (ref n place) h)
        where
          last : (p : SyntaxPattern) → pattern_of s n ≡ Some p → (q : SyntaxPattern) → Has (nodes false q) (ref n place) → (q ≡ p) ⊎ Below s p q → (ref n place ≡ q) ⊎ Below s q (ref n place) → Below s (ref n place) (ref n place)
          last p is q h (inl e) (inl f) = subst (λ z. Below s (ref n place) z) (sym (f ∙ e)) (m.reference is)
          last p is q h (inl e) (inr x) = m.further (m.reference is) (subst (λ z. Below s z (ref n place)) e x)
          last p is q h (inr y) (inl f) = m.further (m.reference is) (subst (λ z. Below s p z) (sym f) y)
          last p is q h (inr y) (inr x) = m.further (m.reference is) (m.further y x)

      by : ((b : List ℕ) × (Has names b × (Leads false n b × At false b (ref n place)))) ⊎ ((b : List ℕ) → Has names b → Leads false n b × At false b (ref n place) → ⊥) → Decided (Below s (ref n place) (ref n place))
      by (inl (b, (h, (l, at)))) = inl (close l at)
      by (inr none) = inr (λ x. let (b, (l, (p, (e, h)))) = below_reference n place x refl in none b (named e) (l, (p, (e, h))))

  circular_here : (place : ℕ) → Decided (IsCircular s place)
  circular_here place = by (any_of (Circular place) (λ n. d.both (reached_here n place) (cycle_here n place)) names)
    where
      by : ((n : List ℕ) × (Has names n × Circular place n)) ⊎ ((n : List ℕ) → Has names n → Circular place n → ⊥) → Decided (IsCircular s place)
      by (inl (n, (h, (r, c)))) = inl (record { name = n; reached = r; cycle = c })
      by (inr none) = inr (λ c.
          let (b, (l, at)) = below_reference c.name place c.cycle refl in
          let (p, e) = leads_pattern l at in
          none c.name (named e) (c.reached, c.cycle))

  -- no reference stands behind this place
  sum_of : List (List ℕ) → ℕ
  sum_of [] = 0
  sum_of (a ∷ rest) = (elim (pattern_of s a) as (λ _. ℕ) [ Some p ↦ places_sum (nodes true p) | None ↦ 0 ]) + sum_of rest

  sum_above : (a : List ℕ) (p : SyntaxPattern) (among : List (List ℕ)) → pattern_of s a ≡ Some p → Has among a → places_sum (nodes true p) ≤ sum_of among
  unfolding sum_of
  sum_above a p [] e h = absurd (none_has h)
  sum_above a p (x ∷ rest) e h = by (has_first h) (λ k. sum_above a p rest e k)
    where
      by : (a ≡ x) ⊎ Has rest a → (Has rest a → places_sum (nodes true p) ≤ sum_of rest) → places_sum (nodes true p) ≤ sum_of (x ∷ rest)
      by (inl is) f =
          let same : elim (pattern_of s x) as (λ _. ℕ) [ Some q ↦ places_sum (nodes true q) | None ↦ 0 ] ≡ places_sum (nodes true p) =
          ap (λ o. elim o as (λ _. ℕ) [ Some q ↦ places_sum (nodes true q) | None ↦ 0 ]) (ap (pattern_of s) (sym is) ∙ e) in
          omega (arith, same)
      by (inr k) f = omega (arith, f k)

  circular_within : (place : ℕ) → IsCircular s place → place < suc (sum_of names)
  circular_within place c =
      let (a, (l, (p, (e, h)))) = reached_at c.reached in
      omega (arith, place_within c.name place (nodes true p) h, sum_above a p names e (named e))

  loop_here : ((place : ℕ) × IsLoop s place) ⊎ IsAcyclic s
  loop_here = by (least_below (IsCircular s) circular_here (suc (sum_of names)))
    where
      by : ((k : ℕ) × (IsCircular s k × ((j : ℕ) → IsCircular s j → k ≤ j))) ⊎ ((k : ℕ) → k < suc (sum_of names) → IsCircular s k → ⊥) → ((place : ℕ) × IsLoop s place) ⊎ IsAcyclic s
      by (inl (k, (c, least))) = inl (k, (c, least))
      by (inr none) = inr (λ place c. none place (circular_within place c) c)

  -- The start.

  bad_here : (start : SyntaxPattern) → pattern_of s [] ≡ Some start → ((q : SyntaxPattern) × (((q ≡ start) ⊎ Below s start q) × (may_start q ≡ false))) ⊎ ((q : SyntaxPattern) → (q ≡ start) ⊎ Below s start q → may_start q ≡ false → ⊥)
  bad_here start is = by (any_of (λ a. Leads false [] a × ((q : SyntaxPattern) × (At false a q × (may_start q ≡ false)))) (λ a. d.both (leads_here false [] a) (at_here false (λ q. may_start q ≡ false) bad a)) names)
    where
      bad : (q : SyntaxPattern) → Decided (may_start q ≡ false)
      bad q = by (may_start q)
        where
          by : (b : Bool) → Decided (b ≡ false)
          by false = inl refl
          by true = inr (λ e. true≢false e)

      below : {a : List ℕ} {q : SyntaxPattern} → Leads false [] a → At false a q → (q ≡ start) ⊎ Below s start q
      below {a} {q} l (p, (e, h)) = at (leads_below l is e) (node_below s p q h)
        where
          at : (p ≡ start) ⊎ Below s start p → (q ≡ p) ⊎ Below s p q → (q ≡ start) ⊎ Below s start q
          at (inl e) (inl f) = inl (f ∙ e)
          at (inl e) (inr x) = inr (subst (λ z. Below s z q) e x)
          at (inr y) (inl f) = inr (subst (λ z. Below s start z) (sym f) y)
          at (inr y) (inr x) = inr (m.further y x)

      stands : {q : SyntaxPattern} → (q ≡ start) ⊎ Below s start q → (a : List ℕ) × (Leads false [] a × At false a q)
      stands {q} (inl e) = ([], (inl refl, (start, (is, subst (λ z. Has (nodes false start) z) (sym e) (node_self false start)))))
      stands (inr x) = below_at x [] (named_at false [] start is)

      by : ((a : List ℕ) × (Has names a × (Leads false [] a × ((q : SyntaxPattern) × (At false a q × (may_start q ≡ false))))))
          ⊎ ((a : List ℕ) → Has names a → Leads false [] a × ((q : SyntaxPattern) × (At false a q × (may_start q ≡ false))) → ⊥)
          → ((q : SyntaxPattern) × (((q ≡ start) ⊎ Below s start q) × (may_start q ≡ false))) ⊎ ((q : SyntaxPattern) → (q ≡ start) ⊎ Below s start q → may_start q ≡ false → ⊥)
      by (inl (a, (h, (l, (q, (at, b)))))) = inl (q, (below l at, b))
      by (inr none) = inr (λ q k b. let (a, (l, (p, (e, h)))) = stands k in none a (named e) (l, (q, ((p, (e, h)), b))))

  start_place : (start : SyntaxPattern) → pattern_of s [] ≡ Some start → (place : ℕ) × (first_definition (definitions_of s.definitions []) ≡ Some place)
  start_place start e = by (definitions_of s.definitions []) refl
    where
      by : (ds : List Definition) → definitions_of s.definitions [] ≡ ds → (place : ℕ) × (first_definition (definitions_of s.definitions []) ≡ Some place)
      by [] f = absurd (some_none e (ap joined_definitions f))
      by (x ∷ ds) f = (x.place, ap first_definition f)

  -- What each pattern becomes.

  -- a reference that is reached has a definition
  module _ (defined : undefined_at s ≡ None) where
    unless : (n : List ℕ) (place : ℕ) → unless_defined s n place ≡ None → (p : SyntaxPattern) × (pattern_of s n ≡ Some p)
    unless n place e = by (pattern_of s n) refl e
      where
        some : {k : ℕ} → Some k ≡ None → ⊥
        some e = cc

        by : (o : Option SyntaxPattern) → pattern_of s n ≡ o → elim o as (λ _. Option ℕ) [ Some p ↦ None | None ↦ Some place ] ≡ None → (p : SyntaxPattern) × (pattern_of s n ≡ Some p)
        by (Some p) f e = (p, f)
        by None f e = absurd (some e)

    start_defined : (p : SyntaxPattern) × (pattern_of s [] ≡ Some p)
    start_defined = unless [] s.end (by (first_answer (undefined_reference s) (nodes_of s) None) refl)
      where
        otherwise : (o : Option ℕ) → first_answer (undefined_reference s) (nodes_of s) None ≡ o → o ≡ None → unless_defined s [] s.end ≡ None
        otherwise o f e = sym (no_answer (undefined_reference s) (nodes_of s) (unless_defined s [] s.end) (f ∙ e)) ∙ defined

        by : (o : Option ℕ) → first_answer (undefined_reference s) (nodes_of s) None ≡ o → unless_defined s [] s.end ≡ None
        by None f = otherwise None f refl
        by (Some k) f = absurd (some_none (one_answer (undefined_reference s) (nodes_of s) (unless_defined s [] s.end) k f) defined)

    reference_defined : (n : List ℕ) (place : ℕ) → Reached s (ref n place) → (p : SyntaxPattern) × (pattern_of s n ≡ Some p)
    reference_defined n place r =
        let (a, (l, (p, (e, h)))) = reached_at r in
        let (x, among, inside) = in_joined (definitions_of s.definitions a) p (ref n place) e h refl in
        let (stands, same) = chosen_has a s.definitions x among in
        unless n place (none_answers (undefined_reference s) (nodes_of s) (unless_defined s [] s.end) (ref n place) defined
        (in_all_nodes stands (subst (λ z. Has z (ref n place)) (nodes_same x.body) inside)))

    module _ (acyclic : IsAcyclic s) (numbered : List Element) where
      abbrev Made : SyntaxPattern → Type 0
      Made p = (q : Pattern) × Becomes s numbered p q

      -- a name may still come, or what it stands for has this pattern below it
      abbrev Inside : List (List ℕ) → SyntaxPattern → Type 0
      Inside left p = (n : List ℕ) → Has names n → Has left n ⊎ ((place : ℕ) → Below s (ref n place) p)

      inside_part : {left : List (List ℕ)} {p q : SyntaxPattern} → Inside left p → IsOpenPart p q → Inside left q
      inside_part {left} {p} {q} f part n h = by (f n h)
        where
          by : Has left n ⊎ ((place : ℕ) → Below s (ref n place) p) → Has left n ⊎ ((place : ℕ) → Below s (ref n place) q)
          by (inl k) = inl k
          by (inr x) = inr (λ place. m.further (x place) (m.part part))

      mutual
        made : (left : List (List ℕ)) → ((n : List ℕ) (place : ℕ) → Reached s (ref n place) → Inside left (ref n place) → Made (ref n place)) → (p : SyntaxPattern) → Reached s p → Inside left p → Made p
        made left refs empty r f = (g.empty, an_empty)
        made left refs not_allowed r f = (g.not_allowed, a_not_allowed)
        made left refs text r f = (g.text, a_text)
        made left refs attribute r f = (g.empty, an_attribute)
        made left refs (ref n place) r f = refs n place r f
        made left refs (element place c p) r f = (_, an_element)
        made left refs (mixed p) r f = let (q, b) = made left refs p (m.part r refl) (inside_part f refl) in (_, a_mixed b)
        made left refs (optional p) r f = let (q, b) = made left refs p (m.part r refl) (inside_part f refl) in (_, an_optional b)
        made left refs (zero_or_more p) r f = let (q, b) = made left refs p (m.part r refl) (inside_part f refl) in (_, a_zero_or_more b)
        made left refs (one_or_more p) r f = let (q, b) = made left refs p (m.part r refl) (inside_part f refl) in (_, a_one_or_more b)
        made left refs (group ps) r f = let (qs, b) = all_made left refs ps (λ q k. m.part r k) (λ q k. inside_part f k) in (_, a_group b)
        made left refs (choice ps) r f = let (qs, b) = all_made left refs ps (λ q k. m.part r k) (λ q k. inside_part f k) in (_, a_choice b)
        made left refs (interleave ps) r f = let (qs, b) = all_made left refs ps (λ q k. m.part r k) (λ q k. inside_part f k) in (_, an_interleave b)

        all_made : (left : List (List ℕ)) → ((n : List ℕ) (place : ℕ) → Reached s (ref n place) → Inside left (ref n place) → Made (ref n place)) → (ps : SyntaxPatterns) → ((q : SyntaxPattern) → IsAmong ps q → Reached s q)
            → ((q : SyntaxPattern) → IsAmong ps q → Inside left q) → (qs : Patterns) × AllBecome s numbered ps qs
        all_made left refs no_more r f = (g.no_more, none_left)
        all_made left refs (more p ps) r f =
            let (q, b) = made left refs p (r p (inl refl)) (f p (inl refl)) in
            let (qs, l) = all_made left refs ps (λ x k. r x (inr k)) (λ x k. f x (inr k)) in
            (g.more q qs, one_more b l)

      -- a list without one of its names
      without : (n : List ℕ) (left : List (List ℕ)) → List (List ℕ)
      without n [] = []
      without n (a ∷ left) = cond (bytes_eq a n) (without n left) (a ∷ without n left)

      without_fewer : (n : List ℕ) (left : List (List ℕ)) → length (without n left) ≤ length left
      unfolding without
      without_fewer n [] = omega arith
      without_fewer n (a ∷ left) = by (bytes_eq a n) (without_fewer n left)
        where
          by : (b : Bool) → length (without n left) ≤ length left → length (cond b (without n left) (a ∷ without n left)) ≤ length (a ∷ left)
          by true h = omega (arith, h)
          by false h = omega (arith, h)

      without_less : (n : List ℕ) (left : List (List ℕ)) → Has left n → length (without n left) < length left
      unfolding without
      without_less n [] h = absurd (none_has h)
      without_less n (a ∷ left) h = by (bytes_eq a n) refl (has_first h) (λ k. without_less n left k)
        where
          by : (b : Bool) → bytes_eq a n ≡ b → (n ≡ a) ⊎ Has left n → (Has left n → length (without n left) < length left) → length (cond b (without n left) (a ∷ without n left)) < length (a ∷ left)
          by true e k f = omega (arith, without_fewer n left)
          by false e (inl same) f = absurd (false≢true (sym e ∙ (ap (λ z. bytes_eq z n) (sym same) ∙ same_bytes n)))
          by false e (inr k) f = omega (arith, f k)

      without_others : (n k : List ℕ) (left : List (List ℕ)) → Has left k → (k ≡ n) ⊎ Has (without n left) k
      unfolding without
      without_others n k [] h = absurd (none_has h)
      without_others n k (a ∷ left) h = by (bytes_eq a n) refl (has_first h) (λ m. without_others n k left m)
        where
          later : (b : Bool) → (k ≡ n) ⊎ Has (without n left) k → (k ≡ n) ⊎ Has (cond b (without n left) (a ∷ without n left)) k
          later b (inl e) = inl e
          later true (inr m) = inr m
          later false (inr m) = inr (there m)

          by : (b : Bool) → bytes_eq a n ≡ b → (k ≡ a) ⊎ Has left k → (Has left k → (k ≡ n) ⊎ Has (without n left) k) → (k ≡ n) ⊎ Has (cond b (without n left) (a ∷ without n left)) k
          by true e (inl same) f = inl (same ∙ bytes_are a n e)
          by false e (inl same) f = inr (subst (λ z. Has (a ∷ without n left) z) (sym same) here)
          by b e (inr m) f = later b (f m)

      -- what is so of fewer names
      abbrev Fewer : ℕ → Type 0
      Fewer count = (rest : List (List ℕ)) → length rest ≤ count → (k : List ℕ) (q : ℕ) → Reached s (ref k q) → Inside rest (ref k q) → Made (ref k q)

      -- of so many names at most that may still come
      made_of : (count : ℕ) (left : List (List ℕ)) → length left ≤ count → (n : List ℕ) (place : ℕ) → Reached s (ref n place) → Inside left (ref n place) → Made (ref n place)
      made_of zero left l n place r f = by (f n (named (reference_defined n place r).1))
        where
          by : Has left n ⊎ ((p : ℕ) → Below s (ref n p) (ref n place)) → Made (ref n place)
          by (inl h) = absurd (omega (arith, l, without_less n left h))
          by (inr x) = absurd (acyclic place (record { name = n; reached = r; cycle = x place }))
      made_of (suc count) left l n place r f = by (λ rest k. made_of count rest k) (reference_defined n place r)
        where
          further : (p : SyntaxPattern) → pattern_of s n ≡ Some p → Inside (without n left) p
          further p e k h = at (f k h)
            where
              here_or : (k ≡ n) ⊎ Has (without n left) k → Has (without n left) k ⊎ ((q : ℕ) → Below s (ref k q) p)
              here_or (inl same) = inr (λ q. m.reference (ap (pattern_of s) same ∙ e))
              here_or (inr m') = inl m'

              at : Has left k ⊎ ((q : ℕ) → Below s (ref k q) (ref n place)) → Has (without n left) k ⊎ ((q : ℕ) → Below s (ref k q) p)
              at (inl h) = here_or (without_others n k left h)
              at (inr x) = inr (λ q. m.further (x q) (m.reference e))

          once : Fewer count → (p : SyntaxPattern) → pattern_of s n ≡ Some p → Has left n ⊎ ((q : ℕ) → Below s (ref n q) (ref n place)) → Made (ref n place)
          once fewer p e (inr x) = absurd (acyclic place (record { name = n; reached = r; cycle = x place }))
          once fewer p e (inl h) =
              let (q, b) = made (without n left) (fewer (without n left) (omega (arith, l, without_less n left h))) p (m.reference r e) (further p e) in
              (q, a_reference e b)

          by : Fewer count → (p : SyntaxPattern) × (pattern_of s n ≡ Some p) → Made (ref n place)
          by fewer (p, e) = once fewer p e (f n (named e))

      becomes_here : (p : SyntaxPattern) → Reached s p → Made p
      becomes_here p r = made names (made_of (length names) names (omega arith)) p r (λ n h. inl h)

      elements_become : (es : List Element) → AllByRecursion (λ e. Reached s (element e.place e.names e.content)) es → (ps : List ElementPattern) × ElementsBecome s numbered es ps
      elements_become [] h = ([], no_element)
      elements_become (e ∷ es) (r, h) =
          let (p, b) = becomes_here e.content (m.content r) in
          let (ps, l) = elements_become es h in
          (record { names = name_class e.names; content = p } ∷ ps, next b l)

  -- The elements.

  live : List ℕ → Bool
  live a = truth (leads_here true [] a)

  kept : List Definition → List Element
  kept [] = []
  kept (x ∷ ds) = cond (live x.name) (filter_map element_of (nodes true x.body)) [] ++ kept ds

  kept_ascending : (low : ℕ) (ds : List Definition) → AscendFrom low (places_of ds) → AreAscending (kept ds) × AllByRecursion (λ e. low ≤ e.place) (kept ds)
  unfolding kept
  kept_ascending low [] h = (tt, tt)
  kept_ascending low (x ∷ ds) h =
      let xs : List Element = filter_map element_of (nodes true x.body) in
      let l = lies low xs (places_of ds) (subst (λ z. AscendFrom low (z ++ places_of ds)) (places_are x.body) h) in
      by l (kept_ascending l.high ds l.after) (live x.name)
    where
      by : (l : Lies low (filter_map element_of (nodes true x.body)) (places_of ds)) → AreAscending (kept ds) × AllByRecursion (λ e. l.high ≤ e.place) (kept ds) → (b : Bool)
          → AreAscending (cond b (filter_map element_of (nodes true x.body)) [] ++ kept ds) × AllByRecursion (λ e. low ≤ e.place) (cond b (filter_map element_of (nodes true x.body)) [] ++ kept ds)
      by l (a, k) true = (
        join_ascending low l.high (filter_map element_of (nodes true x.body)) (kept ds) l.ascending l.within a k,
        join_all (λ e. low ≤ e.place) (filter_map element_of (nodes true x.body)) (kept ds) (firsts low l.high (filter_map element_of (nodes true x.body)) l.within) (weaker low l.high (kept ds) l.above k),
      )
      by l (a, k) false = (a, weaker low l.high (kept ds) l.above k)

  in_kept : (ds : List Definition) (e : Element) → Has (kept ds) e → (x : Definition) × (Has ds x × ((live x.name ≡ true) × Has (filter_map element_of (nodes true x.body)) e))
  unfolding kept
  in_kept [] e h = absurd (none_has h)
  in_kept (x ∷ ds) e h =
      either (has_cases (cond (live x.name) (filter_map element_of (nodes true x.body)) []) (kept ds) h) (λ k. by (live x.name) refl k) (λ k. let (y, (a, (b, c))) = in_kept ds e k in (y, (there a, (b, c))))
    where
      by : (b : Bool) → live x.name ≡ b → Has (cond b (filter_map element_of (nodes true x.body)) []) e → (y : Definition) × (Has (x ∷ ds) y × ((live y.name ≡ true) × Has (filter_map element_of (nodes true y.body)) e))
      by true f k = (x, (here, (f, k)))
      by false f k = absurd (none_has k)

  kept_has : {ds : List Definition} {x : Definition} {e : Element} → Has ds x → live x.name ≡ true → Has (filter_map element_of (nodes true x.body)) e → Has (kept ds) e
  unfolding kept
  kept_has {e = e} (here {x = x} {xs = ds}) f k =
      has_left (cond (live x.name) (filter_map element_of (nodes true x.body)) []) (kept ds) (subst (λ b. Has (cond b (filter_map element_of (nodes true x.body)) []) e) (sym f) k)
  kept_has (there {y = y} {xs = ds} h) f k = has_right (cond (live y.name) (filter_map element_of (nodes true y.body)) []) (kept ds) (kept_has h f k)

  some_joined : (ds : List Definition) (x : Definition) → Has ds x → (p : SyntaxPattern) × (joined_definitions ds ≡ Some p)
  some_joined [] x h = absurd (none_has h)
  some_joined (y ∷ []) x h = (y.body, refl)
  some_joined (y ∷ (z ∷ ds)) x h = (_, refl)

  element_reached : (e : Element) → Has (kept s.definitions) e → Reached s (element e.place e.names e.content)
  unfolding live
  element_reached e h =
      let (x, (stands, (f, k))) = in_kept s.definitions e h in
      let among = has_chosen x.name s.definitions x stands (same_bytes x.name) in
      let (p, is) = some_joined (definitions_of s.definitions x.name) x among in
      let found = has_filter element_of (nodes true x.body) e k in
      node_reached s x.body (element e.place e.names e.content) (body x p (leads_reached (from_truth (leads_here true [] x.name) f) is) (body_part (definitions_of s.definitions x.name) x p among is))
      (subst (λ z. Has (nodes true x.body) z) (element_is found.item e found.gives) found.stands)
    where
      body : (x : Definition) (p : SyntaxPattern) → Reached s p → (x.body ≡ p) ⊎ IsOpenPart p x.body → Reached s x.body
      body x p r (inl e) = subst (λ z. Reached s z) (sym e) r
      body x p r (inr o) = m.part r o

  elements_reached : (es : List Element) → ((e : Element) → Has es e → Has (kept s.definitions) e) → AllByRecursion (λ e. Reached s (element e.place e.names e.content)) es
  elements_reached [] f = tt
  elements_reached (e ∷ es) f = (element_reached e (f e here), elements_reached es (λ x k. f x (there k)))

  all_kept : (place : ℕ) (c : SyntaxClass) (p : SyntaxPattern) → Reached s (element place c p) → Contains (kept s.definitions) (record { place = place; names = c; content = p })
  unfolding live
  all_kept place c p r =
      let (a, (l, (q, (e, h)))) = reached_at r in
      let (x, among, inside) = in_joined (definitions_of s.definitions a) q (element place c p) e h refl in
      let (stands, same) = chosen_has a s.definitions x among in
      has_contains (kept_has stands (to_truth (leads_here true [] x.name) (subst (λ z. Leads true [] z) (sym (bytes_are x.name a same)) l)) (filter_has element_of inside refl))

  -- All together.

  whole : AscendFrom 0 (places_of s.definitions) → IsFaultless s → (start : SyntaxPattern) → pattern_of s [] ≡ Some start → (grammar : Grammar) × Simplifies s grammar
  whole order f start is =
      let reached = elements_reached (kept s.definitions) (λ e h. h) in
      let (p, b) = becomes_here f.defined f.acyclic (kept s.definitions) start (m.at_start is) in
      let (ps, l) = elements_become f.defined f.acyclic (kept s.definitions) (kept s.definitions) reached in (
        record { start = p; elements = ps },
        record {
          faultless = f;
          is_grammar = record {
            numbered = kept s.definitions;
            start = start;
            ascending = (kept_ascending 0 s.definitions order).0;
            reached = reached;
            all = all_kept;
            is_start = is;
            start_becomes = b;
            elements_become = l;
          };
        },
      )

  pub grammar_or_fault : IsLawfulSyntax s → ((grammar : Grammar) × Simplifies s grammar) ⊎ ((f : Fault) × Fails s f)
  grammar_or_fault lawful = by (twice_at s) refl (undefined_at s) refl loop_here (bad_except_at s) refl
    where
      started : twice_at s ≡ None → undefined_at s ≡ None → IsAcyclic s → bad_except_at s ≡ None → (start : SyntaxPattern) → pattern_of s [] ≡ Some start
          → ((q : SyntaxPattern) × (((q ≡ start) ⊎ Below s start q) × (may_start q ≡ false))) ⊎ ((q : SyntaxPattern) → (q ≡ start) ⊎ Below s start q → may_start q ≡ false → ⊥)
          → ((grammar : Grammar) × Simplifies s grammar) ⊎ ((f : Fault) × Fails s f)
      started a b c e start is (inl (q, (k, bad))) =
          let (place, first) = start_place start is in
          inr (bad_start place, (a, b, c, e, record { start = start; other = q; is_start = is; below = k; bad = bad; first = first }))
      started a b c e start is (inr none) = inl (whole lawful.in_order (record { once = a; defined = b; acyclic = c; excepts = e; start = no }) start is)
        where
          no : (place : ℕ) → IsBadStart s place → ⊥
          no place x = none x.other (subst (λ z. (x.other ≡ z) ⊎ Below s z x.other) (same_some x.is_start is) x.below) x.bad

      by : (a : Option ℕ) → twice_at s ≡ a → (b : Option ℕ) → undefined_at s ≡ b → ((place : ℕ) × IsLoop s place) ⊎ IsAcyclic s → (c : Option ℕ) → bad_except_at s ≡ c
          → ((grammar : Grammar) × Simplifies s grammar) ⊎ ((f : Fault) × Fails s f)
      by (Some p) a y b l z c = inr (twice p, a)
      by None a (Some p) b l z c = inr (undefined p, (a, b))
      by None a None b (inl (p, l)) z c = inr (loop p, (a, b, l))
      by None a None b (inr h) (Some p) c = inr (bad_except p, (a, b, h, c))
      by None a None b (inr h) None c = let (start, is) = start_defined b in started a b h c start is (bad_here start is)
