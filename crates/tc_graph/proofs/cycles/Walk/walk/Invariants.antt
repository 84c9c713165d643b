use Rattle.std.proofs.Common.{◌≡◌}
use Rattle.tc_graph.specs.Graph.{rows_of}
use Rattle.tc_graph.specs.Walks.{IsWalk, KeepsOld, cost, seen, state_at}
use Rattle.tc_graph.specs.declared.cycles.State.TheVariants.{New}
use Rattle.tc_graph.proofs.cycles.Walk.walk.Given as goal

abbrev pub invariant-loop-start : goal.invariant-loop-start
invariant-loop-start l = record {
  walk : IsWalk (rows_of l.rows) (seen l.self);
  old : KeepsOld (seen l.fn.self) (seen l.self);
  here : state_at l.self.states.items l.number ≡ New → ⊥;
}

abbrev pub decreases-loop-start : goal.decreases-loop-start
decreases-loop-start l = cost (rows_of l.rows) (seen l.self)
