-- The states that a schema's limit counts are those of its automata.
use Rattle.std.proofs.Common.{◌≡◌, ◌<◌, ℕ, ◌+◌, ◌*◌, List, [], ◌∷◌, length, sum_by, mul_assoc, refl, ap, ◌∙◌, arith}
use Rattle.std.proofs.lemmas.List.Sums.{sum_by-cons}
use Rattle.tc_model.specs.Grammars.{Pattern, Patterns, ElementPattern, empty, not_allowed, text, ref, group, choice, interleave, one_or_more, no_more, more}
use Rattle.tc_model.specs.States.{Automaton, automaton, grouped, chosen, interleaved, group_of, choice_of, interleave_of, empty_automaton, nothing_automaton, states_of_contents}
use Rattle.tc_model.specs.SchemaStates.{states_in, later_states_in, pairs_of_states_in, StateCountsAgree}
use Rattle.tc_model.proofs.StatesExact.{sound}

some : (q : Pattern) → 0 < (automaton q).count
some q = let s = sound q in s.some

abbrev AreCounted : Patterns → Type 0
AreCounted no_more = Unit {0}
AreCounted (more q qs) = ((automaton q).count ≡ states_in q) × AreCounted qs

grouped_counted : (ps : Patterns) (a : Automaton) → AreCounted ps → (grouped ps a).count ≡ a.count + later_states_in ps
grouped_counted no_more a counted = omega arith
grouped_counted (more q qs) a counted = omega (arith, grouped_counted qs (group_of a (automaton q)) counted.1, counted.0, some q)

chosen_counted : (ps : Patterns) (a : Automaton) → AreCounted ps → (chosen ps a).count ≡ a.count + later_states_in ps
chosen_counted no_more a counted = omega arith
chosen_counted (more q qs) a counted = omega (arith, chosen_counted qs (choice_of a (automaton q)) counted.1, counted.0, some q)

interleaved_counted : (ps : Patterns) (a : Automaton) → AreCounted ps → (interleaved ps a).count ≡ a.count * pairs_of_states_in ps
interleaved_counted no_more a counted = omega arith
interleaved_counted (more q qs) a counted =
    interleaved_counted qs (interleave_of a (automaton q)) counted.1
    ∙ (mul_assoc a.count (automaton q).count (pairs_of_states_in qs) ∙ ap (λ n. a.count * (n * pairs_of_states_in qs)) counted.0)

one_times : (n : ℕ) → 1 * n ≡ n
one_times n = omega arith

mutual
  pub states_counted : (p : Pattern) → (automaton p).count ≡ states_in p
  states_counted empty = refl
  states_counted not_allowed = refl
  states_counted text = refl
  states_counted (ref k) = refl
  states_counted (group ps) = grouped_counted ps empty_automaton (are_counted ps)
  states_counted (choice ps) = chosen_counted ps nothing_automaton (are_counted ps)
  states_counted (interleave ps) = interleaved_counted ps empty_automaton (are_counted ps) ∙ one_times (pairs_of_states_in ps)
  states_counted (one_or_more p) = states_counted p

  are_counted : (ps : Patterns) → AreCounted ps
  are_counted no_more = tt
  are_counted (more q qs) = (states_counted q, are_counted qs)

contents_counted : (es : List ElementPattern) → states_of_contents es (length es) ≡ sum_by (λ (e : ElementPattern). states_in e.content) es
contents_counted [] = refl
contents_counted (e ∷ es) = omega (arith, sum_by-cons (λ (d : ElementPattern). states_in d.content) e es, contents_counted es, states_counted e.content)

pub state_counts_agree : StateCountsAgree
state_counts_agree g = (omega (arith, contents_counted g.elements), omega (arith, contents_counted g.elements, states_counted g.start))
