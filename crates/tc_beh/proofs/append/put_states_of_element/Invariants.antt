use Rattle.std.proofs.Common.{◌≡◌, ◌<◌, ◌≤◌, ◌⊎◌, ◌+◌, ℕ, get_or}
use Rattle.tc_beh.specs.Bundles.{AreStepsOf}
use Rattle.tc_beh.specs.RoomsOf.{IsRoomBeside}
use Rattle.tc_beh.proofs.Flagging.{PutSoFar}
use Rattle.tc_beh.proofs.append.put_states_of_element.Given as goal

abbrev pub invariant-loop-before : goal.invariant-loop-before
invariant-loop-before l = record {
  steps : AreStepsOf l.fn.auto l.bundles;
  beside : IsRoomBeside l.fn.out l.out;
  others : (k : ℕ) → (k < 2) ⊎ (2 + l.fn.out.flags ≤ k) → get_or l.out.numbers.items k 0 ≡ get_or l.fn.out.numbers.items k 0;
  put : PutSoFar l.fn.auto l.hedge l.before l.patterns l.out.numbers.items;
}
