use Rattle.std.proofs.Common.{◌≡◌, ◌<◌, ◌+◌, ℕ, get_or}
use Rattle.tc_beh.specs.RoomsOf.{IsRoomBeside}
use Rattle.tc_beh.proofs.lines.put_looks.Given as goal

abbrev pub invariant-loop-index : goal.invariant-loop-index
invariant-loop-index l =
    IsRoomBeside l.fn.out l.out
    × ((k : ℕ) → k < 2 + l.fn.out.flags + l.fn.out.entries → get_or l.out.numbers.items k 0 ≡ get_or l.fn.out.numbers.items k 0)
    × ((i : ℕ) → i < l.index → get_or l.out.numbers.items (2 + l.fn.out.flags + l.fn.out.entries + i) 0 ≡ get_or l.looks i 0)
