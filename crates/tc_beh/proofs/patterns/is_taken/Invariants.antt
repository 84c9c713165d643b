use Rattle.std.proofs.Common.{◌≡◌, ◌≤◌, ◌<◌, ℕ, get_or}
use Rattle.tc_model.specs.Grammars.{Grammar}
use Rattle.tc_model.specs.States.{Side, IsAccepting}
use Rattle.tc_auto.specs.Stands.{Stands}
use Rattle.tc_beh.proofs.patterns.is_taken.Given as goal

-- in none of the first the content accepts
abbrev pub invariant-loop-state : goal.invariant-loop-state
invariant-loop-state l = (side : Side) (x : Grammar) → Stands side x l.fn.auto → (state : ℕ) → l.first ≤ state → state < l.state → get_or l.states state 0 ≡ 1 → IsAccepting x side state → ⊥
