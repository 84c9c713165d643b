use Rattle.std.proofs.Common.{rules}
use Rattle.tc_verify.specs.Checkers.{view_of}
use Rattle.tc_verify.specs.Listings.{RootHolds}
use Rattle.tc_verify.proofs.Stepping.{one_more_holds}
use Rattle.tc_verify.proofs.first.try_roots.Goals as goal

pub loop-tree-preserved : goal.loop-tree-preserved
loop-tree-preserved c = record {
  checked = search rules;
  same = search rules;
  rows = one_more_holds (RootHolds (view_of c.args.checker.now)) c.loop-tree.tree c.loop-tree.invariant.rows (search rules);
}
