-- Which part of a schema a state belongs to, and what contents take.
use Rattle.std.proofs.Common.{◌≡◌, ◌⊎◌, inl, inr, ℕ, zero, suc, ◌+◌, ◌<◌, ◌≤◌, List, [], ◌∷◌, length, Bool, true, false, ◌||◌, Some, refl, sym, subst, slice_get, arith}
use Rattle.std.specs.List.{list_any}
use Rattle.std.proofs.lemmas.Option.{slice_get_within}
use Rattle.tc_model.specs.Trees.{Trees}
use Rattle.tc_model.specs.Grammars as p
use Rattle.tc_model.specs.Grammars.{Grammar, Pattern, Patterns, no_more, more, ElementPattern, element_at, has_text, have_text, some_content_has_text}
use Rattle.tc_model.specs.LiveTrees.{HavePatterns}
use Rattle.tc_model.specs.TreesApart.{IsApartAfter}
use Rattle.tc_model.specs.States.{input, text_leaf, Automaton, automaton, grouped, chosen, interleaved, group_of, choice_of, interleave_of, empty_automaton, nothing_automaton, IsElementOf, IsPart, a_content, first_state, IsEdge, Leads, at_end, past_white, by_text, by_element}
use Rattle.tc_model.proofs.StatesExact.{sound}
use Rattle.tc_model.proofs.StatesParts.{part_before}
use Rattle.tc_model.proofs.TreesApart.{normal_apart}
use Rattle.tc_alpha.proofs.Members.{Has}
use Rattle.tc_hedge.proofs.Leading.{run_of_leads, stays}
use Rattle.tc_rows.proofs.Leading.{element_has}

-- the numbers of element patterns
pub number_within : (es : List ElementPattern) (k : ℕ) (e : ElementPattern) → element_at es k ≡ Some e → (1 ≤ k) × (k ≤ length es)
number_within es zero e at = absurd (cc)
number_within es (suc k) e at = (omega arith, let low : k < length es = slice_get_within es k e at in omega (arith, low))

pub some_at : {X : Type 0} (xs : List X) (k : ℕ) → k < length xs → (y : X) × (slice_get xs k ≡ Some y)
some_at [] k l = absurd (omega (arith, l))
some_at (y ∷ xs) zero l = (y, refl)
some_at (y ∷ xs) (suc k) l = some_at xs k (omega (arith, l))

pub pattern_at : (es : List ElementPattern) (k : ℕ) → 1 ≤ k → k ≤ length es → (e : ElementPattern) × (element_at es k ≡ Some e)
pattern_at es zero l h = absurd (omega (arith, l))
pattern_at es (suc k) l h = some_at es k (omega (arith, h))

module _ (g : Grammar) where
  -- a state of a content is reached from that content's first state alone
  pub one_content : (k m : ℕ) (e : ElementPattern) (y : ℕ) (h : Trees) → 1 ≤ k → k ≤ length g.elements → element_at g.elements m ≡ Some e → y < (automaton e.content).count
      → Leads g input (first_state g input k) h (first_state g input m + y) → k ≡ m
  one_content k m e y h low high at small l =
      let (f, there) = pattern_at g.elements k low high in
      let part : IsPart g input k f.content = a_content there in
      let other : IsPart g input m e.content = a_content at in
      let s = sound f.content in
      let (z, place, within) = stays g input 0 part (run_of_leads g input l) s.some (omega arith) in
      one k m (first_state g input k) (first_state g input m) (automaton f.content).count (automaton e.content).count y z (λ less. part_before g input part other less) (λ less. part_before g input other part less) place within small
    where
      cases : (k m : ℕ) → (k < m) ⊎ ((m < k) ⊎ (k ≡ m))
      cases k m = grind arith

      one : (k m a b c d y z : ℕ) → (k < m → a + c ≤ b) → (m < k → b + d ≤ a) → b + y ≡ a + z → z < c → y < d → k ≡ m
      one k m a b c d y z before after place within small = elim (cases k m) [
        | inl less ↦ absurd (omega (arith, before less, place, within))
        | inr (inl greater) ↦ absurd (omega (arith, after greater, place, small))
        | inr (inr same) ↦ same
      ]

  -- an edge by text shows that `text` is written there
  or_text : (a b : Bool) → (a ≡ true) ⊎ (b ≡ true) → (a || b) ≡ true
  or_text true b e = refl
  or_text false b (inl e) = absurd (cc)
  or_text false b (inr e) = e

  abbrev HasTextEdge : Automaton → Type 0
  HasTextEdge a = (i : ℕ) × (j : ℕ) × a.edge i text_leaf j

  mutual
    text_written : (q : Pattern) (z : Automaton) → HasTextEdge (automaton q) → has_text q ≡ true
    text_written p.empty z (i, j, e) = absurd e
    text_written p.not_allowed z (i, j, e) = absurd e
    text_written p.text z e = refl
    text_written (p.ref k) z (i, j, e) = absurd (let f = e.0 in cc)
    text_written (p.group ps) z e = elim (grouped_text ps empty_automaton e) [ inl (i, j, f) ↦ absurd f | inr f ↦ f ]
    text_written (p.choice ps) z e = elim (chosen_text ps nothing_automaton e) [ inl (i, j, f) ↦ absurd f | inr f ↦ f ]
    text_written (p.interleave ps) z e = elim (interleaved_text ps empty_automaton e) [ inl (i, j, f) ↦ absurd f | inr f ↦ f ]
    text_written (p.one_or_more q) z (i, j, inl e) = text_written q empty_automaton (i, j, e)
    text_written (p.one_or_more q) z (i, j, inr (f, e)) = text_written q empty_automaton (0, j, e)

    grouped_text : (ps : Patterns) (a : Automaton) → HasTextEdge (grouped ps a) → HasTextEdge a ⊎ (have_text ps ≡ true)
    grouped_text no_more a e = inl e
    grouped_text (more q qs) a e = elim (grouped_text qs (group_of a (automaton q)) e) [
      | inl (i, j, inl f) ↦ inl (i, j, f)
      | inl (i, j, inr (inl (u, v, b, c, d, f))) ↦ inr (or_text (has_text q) (have_text qs) (inl (text_written q empty_automaton (u, v, f))))
      | inl (i, j, inr (inr (v, b, c, f))) ↦ inr (or_text (has_text q) (have_text qs) (inl (text_written q empty_automaton (0, v, f))))
      | inr f ↦ inr (or_text (has_text q) (have_text qs) (inr f))
    ]

    chosen_text : (ps : Patterns) (a : Automaton) → HasTextEdge (chosen ps a) → HasTextEdge a ⊎ (have_text ps ≡ true)
    chosen_text no_more a e = inl e
    chosen_text (more q qs) a e = elim (chosen_text qs (choice_of a (automaton q)) e) [
      | inl (i, j, inl f) ↦ inl (i, j, f)
      | inl (i, j, inr (inl (u, v, b, c, d, f))) ↦ inr (or_text (has_text q) (have_text qs) (inl (text_written q empty_automaton (u, v, f))))
      | inl (i, j, inr (inr (v, b, c, f))) ↦ inr (or_text (has_text q) (have_text qs) (inl (text_written q empty_automaton (0, v, f))))
      | inr f ↦ inr (or_text (has_text q) (have_text qs) (inr f))
    ]

    interleaved_text : (ps : Patterns) (a : Automaton) → HasTextEdge (interleaved ps a) → HasTextEdge a ⊎ (have_text ps ≡ true)
    interleaved_text no_more a e = inl e
    interleaved_text (more q qs) a e = elim (interleaved_text qs (interleave_of a (automaton q)) e) [
      | inl (i, j, inl (u, w, v, b, c, d, f)) ↦ inl (u, w, f)
      | inl (i, j, inr (u, v, w, b, c, d, f)) ↦ inr (or_text (has_text q) (have_text qs) (inl (text_written q empty_automaton (v, w, f))))
      | inr f ↦ inr (or_text (has_text q) (have_text qs) (inr f))
    ]

  some_written : (es : List ElementPattern) (e : ElementPattern) → Has es e → has_text e.content ≡ true → list_any (λ w. has_text w.content) es ≡ true
  some_written [] e h t = absurd h
  some_written (f ∷ es) e (inl same) t = or_text (has_text f.content) (list_any (λ w. has_text w.content) es) (inl (subst (λ w. has_text w.content ≡ true) (sym same) t))
  some_written (f ∷ es) e (inr h) t = or_text (has_text f.content) (list_any (λ w. has_text w.content) es) (inr (some_written es e h t))

  text_of_part : {k : ℕ} {q : Pattern} → IsPart g input k q → HasTextEdge (automaton q) → some_content_has_text g.elements ≡ true
  text_of_part (a_content {k = k} {e = e} at) h = some_written g.elements e (element_has g.elements k e at) (text_written e.content empty_automaton h)

  pub text_of_edge : (i j : ℕ) → IsEdge g input i text_leaf j → some_content_has_text g.elements ≡ true
  text_of_edge i j (k, q, y, z, part, a, b, e) = text_of_part part (y, z, e)

  -- trees that lead somewhere have patterns
  pub led_have : (b : Bool) {i j : ℕ} {h : Trees} → IsApartAfter b h → Leads g input i h j → HavePatterns g h
  led_have b a at_end = tt
  led_have b a (past_white w l) = absurd (let f = a.1 in cc)
  led_have b {i} a (by_text {j = j} w e l) = (text_of_edge i j e, led_have true a.2 l)
  led_have b a (by_element {r = r} {n = n} {c = c} is e l) = ((r, subst (λ w. IsElementOf g.elements r n w) ((normal_apart c).1 a.0) is), led_have false a.1 l)
