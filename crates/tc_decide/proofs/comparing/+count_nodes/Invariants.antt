use Rattle.std.proofs.Common.{◌≡◌, ◌+◌, drop}
use Rattle.tc_model.specs.Trees.{node_count}
use Rattle.tc_model.specs.Views.{trees}
use Rattle.tc_decide.proofs.comparing.+count_nodes.Given as goal

abbrev pub invariant-loop-node : goal.invariant-loop-node
invariant-loop-node l = l.count + node_count (trees (drop l.node-index l.nodes)) ≡ node_count (trees l.nodes)
