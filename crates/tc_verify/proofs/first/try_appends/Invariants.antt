use Rattle.std.proofs.Common.{◌≡◌, ◌<◌, ℕ}
use Rattle.tc_verify.specs.Checkers.{AreChecked, view_of}
use Rattle.tc_verify.specs.Firsts.{AppendsHold}
use Rattle.tc_verify.specs.Listings.{AppendHolds}
use Rattle.tc_verify.proofs.first.try_appends.Given as goal

abbrev pub invariant-loop-hedge : goal.invariant-loop-hedge
invariant-loop-hedge l = record {
  checked : AreChecked l.checker;
  same : view_of l.checker ≡ view_of l.fn.checker;
  rows : (i : ℕ) → i < l.hedge → AppendsHold (view_of l.fn.checker) i;
}

abbrev pub invariant-loop-tree : goal.invariant-loop-tree
invariant-loop-tree l = record {
  checked : AreChecked l.checker;
  same : view_of l.checker ≡ view_of l.fn.checker;
  rows : (i : ℕ) → i < l.hedge → AppendsHold (view_of l.fn.checker) i;
  here : (j : ℕ) → j < l.tree → AppendHolds (view_of l.fn.checker) l.hedge j;
}
