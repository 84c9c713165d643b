use Rattle.std.proofs.Common.{◌≡◌, ◌++◌, drop, map, false}
use Rattle.std.specs.List.{filter_map}
use Rattle.tc_model.specs.Views.{place}
use Rattle.tc_rnc.specs.Views as see
use Rattle.tc_simple.specs.Nodes.{nodes_of_all, loop_at}
use Rattle.tc_simple.proofs.loops.+loops.Given as goal

abbrev pub invariant-add_all_loops-loop-pattern : goal.invariant-add_all_loops-loop-pattern
invariant-add_all_loops-loop-pattern l =
    map place l.found.items ++ filter_map (loop_at l.table l.walk.states.items l.number) (nodes_of_all false (see.patterns (drop l.pattern-index l.patterns)))
    ≡ map place l.fn.found.items ++ filter_map (loop_at l.table l.walk.states.items l.number) (nodes_of_all false (see.patterns l.patterns))
