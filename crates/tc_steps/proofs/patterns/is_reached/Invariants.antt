use Rattle.std.proofs.Common.{ℕ, ◌≤◌, ◌<◌}
use Rattle.tc_auto.specs.Stands as held
use Rattle.tc_model.specs.Grammars.{Grammar}
use Rattle.tc_model.specs.States.{input, IsAccepting}
use Rattle.tc_sets.specs.Numbers.{Has}
use Rattle.tc_steps.proofs.patterns.is_reached.Given as goal

abbrev pub invariant-loop-state : goal.invariant-loop-state
invariant-loop-state l = (x : Grammar) → held.Stands input x l.automaton → (state : ℕ) → l.first ≤ state → state < l.state → Has l.states state → IsAccepting x input state → ⊥
