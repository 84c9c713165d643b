use Rattle.std.proofs.Common.{◌≡◌, ◌<◌, ◌≤◌, ◌⊎◌, ◌+◌, ℕ, get_or}
use Rattle.tc_beh.specs.Rooms.{output_at}
use Rattle.tc_beh.specs.RoomsOf.{IsRoomBeside}
use Rattle.tc_beh.proofs.empty.put_one_output.Given as goal

abbrev pub invariant-loop-place : goal.invariant-loop-place
invariant-loop-place l =
    IsRoomBeside l.fn.out l.out
    × ((k : ℕ) → (k < 2 + l.fn.out.flags) ⊎ (2 + l.fn.out.flags + l.fn.out.entries ≤ k) → get_or l.out.numbers.items k 0 ≡ get_or l.fn.out.numbers.items k 0)
    × ((i : ℕ) → i < l.place → output_at l.fn.out.flags l.out.numbers.items i ≡ l.output)
