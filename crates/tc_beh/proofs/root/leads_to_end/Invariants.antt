use Rattle.std.proofs.Common.{◌<◌, ℕ}
use Rattle.tc_mat.specs.Matrix.{HasPair}
use Rattle.tc_model.specs.Grammars.{Grammar}
use Rattle.tc_model.specs.States.{Side, IsAccepting}
use Rattle.tc_auto.specs.Stands.{Stands}
use Rattle.tc_beh.proofs.root.leads_to_end.Given as goal

-- none of the first is one
abbrev pub invariant-loop-state : goal.invariant-loop-state
invariant-loop-state l = (side : Side) (x : Grammar) → Stands side x l.fn.auto → (state : ℕ) → state < l.state → HasPair l.set 0 state → IsAccepting x side state → ⊥
