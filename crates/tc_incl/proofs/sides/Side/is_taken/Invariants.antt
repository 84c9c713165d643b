use Rattle.std.proofs.Common.{ℕ, ◌≤◌, ◌<◌}
use Rattle.tc_auto.specs.Stands as held
use Rattle.tc_model.specs.Grammars.{Grammar}
use Rattle.tc_model.specs.States.{input, IsAccepting}
use Rattle.tc_sets.specs.Numbers.{Has}
use Rattle.tc_incl.proofs.sides.Side.is_taken.Given as goal

abbrev pub invariant-loop-state : goal.invariant-loop-state
invariant-loop-state l = (x : Grammar) → held.Stands input x l.self.auto.now → (state : ℕ) → l.first ≤ state → state < l.state → Has l.states state → IsAccepting x input state → ⊥
