use Rattle.std.proofs.Common.{◌≡◌, ◌<◌, ◌≤◌, ◌⊎◌, ◌+◌, ℕ, get_or}
use Rattle.tc_beh.specs.RoomsOf.{IsRoomBeside}
use Rattle.tc_beh.proofs.Lining.{PutsFirstPlaces}
use Rattle.tc_beh.proofs.lines.put_places.Given as goal

abbrev pub invariant-loop-index : goal.invariant-loop-index
invariant-loop-index l = record {
  beside : IsRoomBeside l.fn.out l.out;
  others : (k : ℕ) → (k < 2) ⊎ (2 + l.fn.out.flags ≤ k) → get_or l.out.numbers.items k 0 ≡ get_or l.fn.out.numbers.items k 0;
  put : PutsFirstPlaces l.places l.first l.fn.out.flags l.index l.out.numbers.items;
}
