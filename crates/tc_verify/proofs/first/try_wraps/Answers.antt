use Rattle.std.proofs.Common.{rules}
use Rattle.tc_verify.specs.Checkers.{view_of}
use Rattle.tc_verify.specs.Listings.{WrapHolds}
use Rattle.tc_verify.specs.Firsts.{WrapsHold}
use Rattle.tc_verify.proofs.Stepping.{one_more_holds, all_symbols}
use Rattle.tc_verify.proofs.first.try_wraps.Goals as goal

pub loop-hedge-preserved : goal.loop-hedge-preserved
loop-hedge-preserved c = record {
  checked = c.loop-symbol.invariant.checked;
  same = c.loop-symbol.invariant.same;
  rows = one_more_holds (WrapsHold (view_of c.args.checker.now)) c.loop-hedge.hedge c.loop-symbol.invariant.rows
      (λ k low. c.loop-symbol.invariant.here k (all_symbols (view_of c.loop-hedge.checker) (view_of c.args.checker.now) c.symbol_count-symbol-end.result c.loop-symbol.symbol c.loop-hedge.invariant.same c.symbol_count-symbol-end.ensures c.loop-symbol-test.false k low));
}

pub loop-symbol-preserved : goal.loop-symbol-preserved
loop-symbol-preserved c = record {
  checked = search rules;
  same = search rules;
  rows = c.loop-symbol.invariant.rows;
  here = one_more_holds (WrapHolds (view_of c.args.checker.now) c.loop-hedge.hedge) c.loop-symbol.symbol c.loop-symbol.invariant.here (search rules);
}
