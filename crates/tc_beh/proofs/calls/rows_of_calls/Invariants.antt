use Rattle.std.proofs.Common.{◌≡◌, map, take}
use Rattle.tc_graph.specs.Graph.{rows_of}
use Rattle.tc_beh.specs.Callees.{callees_in}
use Rattle.tc_model.specs.Views as see
use Rattle.tc_beh.proofs.calls.rows_of_calls.Given as goal

abbrev pub invariant-loop-body : goal.invariant-loop-body
invariant-loop-body l = rows_of l.rows.items ≡ map (λ b. callees_in (see.body b.now)) (take l.body-index l.named)
