use Rattle.std.proofs.Common.{◌≡◌, ◌<◌, ℕ, []}
use Rattle.tc_graph.specs.Graph.{rows_of}
use Rattle.tc_graph.specs.Walks.{IsWalk, seen, state_at}
use Rattle.tc_graph.specs.declared.cycles.State.TheVariants.{New}
use Rattle.tc_graph.proofs.cycles.components.Given as goal

abbrev pub invariant-loop-number : goal.invariant-loop-number
invariant-loop-number l = record {
  walk : IsWalk (rows_of l.rows) (seen l.walk);
  empty : l.walk.stack.items ≡ [];
  old : (v : ℕ) → v < l.number → state_at l.walk.states.items v ≡ New → ⊥;
}
