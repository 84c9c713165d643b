use Rattle.std.proofs.Common.{◌≡◌, ◌<◌, ℕ}
use Rattle.tc_verify.specs.Checkers.{AreChecked, view_of}
use Rattle.tc_verify.specs.Listings.{RootHolds}
use Rattle.tc_verify.proofs.first.try_roots.Given as goal

abbrev pub invariant-loop-tree : goal.invariant-loop-tree
invariant-loop-tree l = record {
  checked : AreChecked l.checker;
  same : view_of l.checker ≡ view_of l.fn.checker;
  rows : (j : ℕ) → j < l.tree → RootHolds (view_of l.fn.checker) j;
}
