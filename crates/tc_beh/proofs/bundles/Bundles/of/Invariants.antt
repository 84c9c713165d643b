use Rattle.std.proofs.Common.{◌≡◌, ◌+◌, ℕ, length, slice_get, Some}
use Rattle.std.specs.Global.{Vec}
use Rattle.tc_auto.specs.Stands.{states}
use Rattle.tc_model.specs.States as s
use Rattle.tc_beh.specs.Bundles.{AreBundled}
use Rattle.tc_beh.specs.declared.bundles.Bundle.{Bundle}
use Rattle.tc_beh.proofs.bundles.Bundles.of.Given as goal

abbrev pub invariant-loop-before : goal.invariant-loop-before
invariant-loop-before l = record {
  begun : length l.begun.items ≡ states l.fn.auto;
  count : length l.patterns.items ≡ l.before;
  patterns : (k : ℕ) (v : Vec Bundle) → slice_get l.patterns.items k ≡ Some v → AreBundled l.fn.auto (s.ref_leaf (k + 1)) v.items;
}
