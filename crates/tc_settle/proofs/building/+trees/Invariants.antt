use Rattle.std.proofs.Common.{◌≡◌, ◌<◌, ◌+◌, ◌*◌, reverse}
use Rattle.tc_model.specs.Trees.{Trees, beside, node_count}
use Rattle.tc_model.specs.Views.{trees}
use Rattle.tc_settle.specs.Closed.{hedge_cost, tree_cost}
use Rattle.tc_settle.specs.Made.{IsMadeHedge}
use Rattle.tc_settle.proofs.building.+trees.Given as goal

abbrev pub decreases-build_kids : goal.decreases-build_kids
decreases-build_kids g l = 3 * hedge_cost l.closed.now l.hedge + 2

abbrev pub decreases-build_tree : goal.decreases-build_tree
decreases-build_tree g l = 3 * tree_cost l.closed.now l.tree

abbrev pub decreases-push_kids : goal.decreases-push_kids
decreases-push_kids g l = 3 * hedge_cost l.closed.now l.hedge + 1

abbrev pub invariant-push_kids-loop-front : goal.invariant-push_kids-loop-front
invariant-push_kids-loop-front g l = record {
  low : l.rest < (g.R.NumberedRows.held l.rows).hedges;
  count : hedge_cost l.closed l.rest + node_count (trees (reverse l.kids.items)) ≡ hedge_cost l.closed l.hedge;
  made : (f : Trees) → IsMadeHedge (g.R.NumberedRows.held l.rows) l.alphabet f l.rest → IsMadeHedge (g.R.NumberedRows.held l.rows) l.alphabet (beside f (trees (reverse l.kids.items))) l.hedge;
}

abbrev pub decreases-push_kids-loop-front : goal.decreases-push_kids-loop-front
decreases-push_kids-loop-front g l = hedge_cost l.closed l.rest
