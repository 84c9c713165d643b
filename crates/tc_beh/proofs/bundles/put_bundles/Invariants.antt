use Rattle.std.proofs.Common.{◌≡◌, ◌<◌, ◌≤◌, ◌⊎◌, ◌+◌, ℕ, get_or}
use Rattle.tc_beh.specs.RoomsOf.{IsRoomBeside}
use Rattle.tc_beh.specs.Bundles.{PutsBy}
use Rattle.tc_beh.proofs.Bundling.{ByFirst}
use Rattle.tc_beh.proofs.bundles.put_bundles.Given as goal

abbrev pub invariant-loop-bundle : goal.invariant-loop-bundle
invariant-loop-bundle l = record {
  beside : IsRoomBeside l.fn.out l.out;
  others : (k : ℕ) → (k < 2) ⊎ (2 + l.fn.out.flags ≤ k) → get_or l.out.numbers.items k 0 ≡ get_or l.fn.out.numbers.items k 0;
  put : PutsBy (ByFirst l.bundles l.words l.bundle-index) l.fn.out.numbers.items l.out.numbers.items;
}
