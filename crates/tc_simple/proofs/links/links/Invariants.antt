use Rattle.std.proofs.Common.{◌≡◌, take, map}
use Rattle.std.specs.List.{filter_map}
use Rattle.tc_rnc.specs.Views as see
use Rattle.tc_graph.specs.Graph.{rows_of}
use Rattle.tc_simple.specs.Nodes.{nodes, target}
use Rattle.tc_simple.proofs.links.links.Given as goal

abbrev pub invariant-loop-pattern : goal.invariant-loop-pattern
invariant-loop-pattern l = rows_of l.rows.items ≡ map (λ p. filter_map (target l.table) (nodes l.within (see.pattern p))) (take l.pattern-index l.pattern-items)
