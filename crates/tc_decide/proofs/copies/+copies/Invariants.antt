use Rattle.std.proofs.Common.{◌≡◌, take}
use Rattle.tc_model.specs.Views.{trees}
use Rattle.tc_decide.proofs.copies.+copies.Given as goal

abbrev pub invariant-copied_all-loop-node : goal.invariant-copied_all-loop-node
invariant-copied_all-loop-node l = trees l.made.items ≡ trees (take l.node-index l.nodes)
