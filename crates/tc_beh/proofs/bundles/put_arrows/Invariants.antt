use Rattle.std.proofs.Common.{◌≡◌, ◌<◌, ◌≤◌, ◌⊎◌, ◌+◌, ℕ, get_or}
use Rattle.tc_auto.specs.Arrows.{AreWithin}
use Rattle.tc_beh.specs.Bundles.{PutsBy}
use Rattle.tc_beh.specs.RoomsOf.{IsRoomBeside}
use Rattle.tc_beh.proofs.Bundling.{AlongFirst}
use Rattle.tc_beh.proofs.bundles.put_arrows.Given as goal

abbrev pub invariant-loop-arrow : goal.invariant-loop-arrow
invariant-loop-arrow l = record {
  beside : IsRoomBeside l.fn.out l.out;
  others : (k : ℕ) → (k < 2) ⊎ (2 + l.fn.out.flags ≤ k) → get_or l.out.numbers.items k 0 ≡ get_or l.fn.out.numbers.items k 0;
  within : AreWithin l.fn.out.flags l.arrows;
  put : PutsBy (AlongFirst l.arrows l.hedge l.arrow-index) l.fn.out.numbers.items l.out.numbers.items;
}
