use Rattle.std.proofs.Common.{◌≡◌, ◌<◌, ℕ}
use Rattle.tc_verify.specs.Checkers.{AreChecked, view_of}
use Rattle.tc_verify.specs.Firsts.{WrapsHold}
use Rattle.tc_verify.specs.Listings.{WrapHolds}
use Rattle.tc_verify.proofs.first.try_wraps.Given as goal

abbrev pub invariant-loop-hedge : goal.invariant-loop-hedge
invariant-loop-hedge l = record {
  checked : AreChecked l.checker;
  same : view_of l.checker ≡ view_of l.fn.checker;
  rows : (i : ℕ) → i < l.hedge → WrapsHold (view_of l.fn.checker) i;
}

abbrev pub invariant-loop-symbol : goal.invariant-loop-symbol
invariant-loop-symbol l = record {
  checked : AreChecked l.checker;
  same : view_of l.checker ≡ view_of l.fn.checker;
  rows : (i : ℕ) → i < l.hedge → WrapsHold (view_of l.fn.checker) i;
  here : (a : ℕ) → a < l.symbol → WrapHolds (view_of l.fn.checker) l.hedge a;
}
