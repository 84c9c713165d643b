use Rattle.std.proofs.Common.{◌≡◌, length}
use Rattle.tc_beh.specs.Bundles.{AreLow}
use Rattle.tc_beh.proofs.Bundling.{AreFirst}
use Rattle.tc_beh.proofs.bundles.bundled.Given as goal

abbrev pub invariant-loop-arrow : goal.invariant-loop-arrow
invariant-loop-arrow l = record {
  begun : length l.begun.items ≡ length l.fn.begun.items;
  first : AreFirst l.arrows l.arrow-index l.bundles.items;
  low : AreLow (length l.fn.begun.items) l.bundles.items;
}
