use Rattle.std.proofs.Common.{◌≡◌, drop}
use Rattle.tc_model.specs.Views.{trees, raw_trees}
use Rattle.tc_model.specs.Stripped.{bare}
use Rattle.tc_model.specs.Trees.{beside}
use Rattle.tc_xml.proofs.stripping.+bare.Given as goal

-- what was put out, and then what is left
abbrev pub invariant-loop-tree : goal.invariant-loop-tree
invariant-loop-tree l = beside (trees l.out.items) (bare (raw_trees (drop l.tree-index l.raw))) ≡ bare (raw_trees l.raw)
