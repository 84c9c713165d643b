use Rattle.std.proofs.Common.{◌≡◌, ◌++◌, drop}
use Rattle.tc_auto.specs.Steps.{edges_from}
use Rattle.tc_auto.proofs.rows.row_of.Given as goal

abbrev pub invariant-loop-step : goal.invariant-loop-step
invariant-loop-step l = l.edges.items ++ edges_from l.base l.state (drop l.step-index l.step-items) ≡ edges_from l.base l.state l.step-items
