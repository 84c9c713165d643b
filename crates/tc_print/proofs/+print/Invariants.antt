use Rattle.std.proofs.Common.{◌≡◌, ◌≤◌, ◌++◌, List, ℕ, drop}
use Rattle.tc_io.specs.Sink.{Appended}
use Rattle.tc_model.specs.Printed.{printed_in}
use Rattle.tc_model.specs.Views.{trees}
use Rattle.tc_print.proofs.+print.Given as goal

abbrev pub invariant-print_within-loop-node : goal.invariant-print_within-loop-node
invariant-print_within-loop-node g l = record {
  count : g.K.Sink.faults l.fn.sink ≤ g.K.Sink.faults l.sink;
  so_far : (done : List ℕ) × (done ++ printed_in l.default (trees (drop l.node-index l.nodes)) ≡ printed_in l.default (trees l.nodes)) × Appended (g.K.Sink.written l.fn.sink) (g.K.Sink.written l.sink) done;
}
