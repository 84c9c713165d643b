use Rattle.tc_verify.specs.Checkers.{view_of}
use Rattle.tc_verify.specs.Firsts.{AppendsHold}
use Rattle.tc_verify.proofs.Stepping.{one_more_holds, all_trees}
use Rattle.tc_verify.proofs.first.try_appends.Goals as goal

pub loop-hedge-preserved : goal.loop-hedge-preserved
loop-hedge-preserved c = record {
  checked = c.loop-tree.invariant.checked;
  same = c.loop-tree.invariant.same;
  rows = one_more_holds (AppendsHold (view_of c.args.checker.now)) c.loop-hedge.hedge c.loop-tree.invariant.rows
      (λ k low. c.loop-tree.invariant.here k (all_trees (view_of c.loop-hedge.checker) (view_of c.args.checker.now) c.tree_count-tree-end.result c.loop-tree.tree c.loop-hedge.invariant.same c.tree_count-tree-end.ensures c.loop-tree-test.false k low));
}
