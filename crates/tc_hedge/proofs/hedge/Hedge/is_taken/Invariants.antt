use Rattle.std.proofs.Common.{ℕ, ◌≤◌, ◌<◌}
use Rattle.tc_mat.specs.Matrix.{HasPair}
use Rattle.tc_model.specs.Grammars.{Grammar}
use Rattle.tc_model.specs.States.{Side, IsAccepting}
use Rattle.tc_auto.specs.Stands as held
use Rattle.tc_hedge.proofs.hedge.Hedge.is_taken.Given as goal

abbrev pub invariant-loop-state : goal.invariant-loop-state
invariant-loop-state l =
    (side : Side) (x : Grammar) → held.Stands side x l.self.auto → (state : ℕ) → l.first ≤ state → state < l.state → HasPair l.inner l.first state → IsAccepting x side state → ⊥
