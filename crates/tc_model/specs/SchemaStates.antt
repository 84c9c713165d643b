-- How many states a schema has, as its limit counts them: one for each text and each element of a pattern and one for the start, and pairs of states for an interleave.
-- The count is a function on patterns, which needs no automaton; limits on states cite it. That automata have
-- as many is a law (`law_of_state_counts` of `tc_auto`).
use Rattle.std.specs.Prelude.{◌≡◌, ℕ, ◌+◌, ◌-◌, ◌*◌, sum_by}
use Rattle.tc_model.specs.Grammars.{Pattern, Patterns, Grammar, empty, not_allowed, text, ref, group, choice, interleave, one_or_more, no_more, more}
use Rattle.tc_model.specs.States.{input, output, state_count}

abbrev mutual
  pub states_in : Pattern → ℕ
  states_in empty = 1
  states_in not_allowed = 1
  states_in text = 2
  states_in (ref k) = 2
  states_in (group ps) = 1 + later_states_in ps
  states_in (choice ps) = 1 + later_states_in ps
  states_in (interleave ps) = pairs_of_states_in ps
  states_in (one_or_more p) = states_in p

  -- all but the starts
  pub later_states_in : Patterns → ℕ
  later_states_in no_more = 0
  later_states_in (more p ps) = states_in p - 1 + later_states_in ps

  pub pairs_of_states_in : Patterns → ℕ
  pairs_of_states_in no_more = 1
  pairs_of_states_in (more p ps) = states_in p * pairs_of_states_in ps

-- an input schema has the states of its contents, an output schema those of its start too
abbrev pub states_of_input : Grammar → ℕ
states_of_input g = sum_by (λ e. states_in e.content) g.elements

abbrev pub states_of_output : Grammar → ℕ
states_of_output g = states_in g.start + states_of_input g

-- the automata of a schema have these many states
abbrev pub StateCountsAgree : Type 0
StateCountsAgree = (g : Grammar) → (state_count g input ≡ states_of_input g) × (state_count g output ≡ states_of_output g)
