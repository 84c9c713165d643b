use Rattle.std.proofs.Common.{◌≡◌, ◌<◌, ◌≤◌, ◌⊎◌, ◌+◌, ℕ, get_or}
use Rattle.tc_beh.specs.RoomsOf.{IsRoomBeside}
use Rattle.tc_beh.specs.Emptying.{PutsFirst}
use Rattle.tc_beh.proofs.empty.put_first_states.Given as goal

abbrev pub invariant-loop-before : goal.invariant-loop-before
invariant-loop-before l = record {
  beside : IsRoomBeside l.fn.out l.out;
  others : (k : ℕ) → (k < 2) ⊎ (2 + l.fn.out.flags ≤ k) → get_or l.out.numbers.items k 0 ≡ get_or l.fn.out.numbers.items k 0;
  put : PutsFirst l.fn.auto l.before l.out.numbers.items;
}
