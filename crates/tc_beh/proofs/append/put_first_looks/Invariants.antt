use Rattle.std.proofs.Common.{◌≡◌, ◌<◌, ◌+◌, ℕ, get_or}
use Rattle.tc_rows.specs.Rows.{or_hit}
use Rattle.tc_beh.specs.RoomsOf.{IsRoomBeside}
use Rattle.tc_beh.proofs.append.put_first_looks.Given as goal

abbrev pub invariant-loop-place : goal.invariant-loop-place
invariant-loop-place l =
    IsRoomBeside l.fn.out l.out
    × ((k : ℕ) → k < 2 + l.fn.out.flags + l.fn.out.entries → get_or l.out.numbers.items k 0 ≡ get_or l.fn.out.numbers.items k 0)
    × ((i : ℕ) → i < l.place → get_or l.out.numbers.items (2 + l.fn.out.flags + l.fn.out.entries + i) 0 ≡ or_hit (get_or l.first i 0) (get_or l.second i 0))
