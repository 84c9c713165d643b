-- Bounds that hold of the automaton of any schema.
use Rattle.std.proofs.Common.{◌≡◌, ◌≤◌, ℕ, zero, suc, length, sym, ap, ◌∙◌, arith}
use Rattle.std.proofs.lemmas.List.{length-map}
use Rattle.tc_model.specs.Views as see
use Rattle.tc_model.specs.Grammars as g
use Rattle.tc_model.specs.States.{Side, first_state, state_count}
use Rattle.tc_model.proofs.StatesParts.{first_within}
use Rattle.tc_auto.specs.Stands as held
use Rattle.tc_auto.specs.declared.auto.Auto.{Auto}

-- there is a row for each state
pub states_of : (side : Side) (x : g.Grammar) (a : Auto) → held.Stands side x a → length a.rows.items ≡ state_count x side
states_of side x a st = let b = st.built in b.counted

pub patterns_of : (side : Side) (x : g.Grammar) (a : Auto) → held.Stands side x a → length a.elements.now ≡ length x.elements
patterns_of side x a st = sym (length-map a.elements.now see.element_pattern) ∙ ap length st.elements

first_at_most : (side : Side) (x : g.Grammar) (k : ℕ) → first_state x side k ≤ state_count x side
first_at_most side x zero = omega arith
first_at_most side x (suc k) = first_within x side k
