use Rattle.std.proofs.Common.{◌≡◌, ℕ, length, slice_get, Some}
use Rattle.std.specs.Global.{Vec}
use Rattle.tc_auto.specs.Stands.{patterns}
use Rattle.tc_beh.specs.Around.{AreTakers}
use Rattle.tc_beh.proofs.patterns.all_takers.Given as goal

abbrev pub invariant-loop-symbol : goal.invariant-loop-symbol
invariant-loop-symbol l = record {
  count : length l.all.items ≡ l.symbol;
  each : (a : ℕ) (v : Vec ℕ) → slice_get l.all.items a ≡ Some v → AreTakers l.input a (patterns l.input.auto) v.items;
}
