use Rattle.std.proofs.Common.{◌≡◌, ◌<◌, ◌≤◌, ◌⊎◌, ◌+◌, ℕ, get_or, true}
use Rattle.tc_mat.specs.Matrix.{IsComposition}
use Rattle.tc_beh.specs.Rooms.{output_at}
use Rattle.tc_beh.specs.RoomsOf.{IsRoomBeside}
use Rattle.tc_beh.specs.Held.{Grows, set_at}
use Rattle.tc_beh.proofs.outputs.put_products.Given as goal

abbrev pub invariant-loop-place : goal.invariant-loop-place
invariant-loop-place l = record {
  set : l.set.size ≡ l.fn.set.size;
  beside : IsRoomBeside l.fn.out l.out;
  others : (k : ℕ) → (k < 2 + l.fn.out.flags) ⊎ (2 + l.fn.out.flags + l.fn.out.entries ≤ k) → get_or l.out.numbers.items k 0 ≡ get_or l.fn.out.numbers.items k 0;
  grows : Grows l.fn.outputs l.outputs (output_at l.fn.out.flags l.out.numbers.items) l.place;
  pairs : (i : ℕ) → i < l.place → IsComposition (set_at l.fn.outputs (get_or l.first i 0)) (set_at l.fn.outputs (get_or l.second i 0)) (set_at l.outputs (output_at l.fn.out.flags l.out.numbers.items i));
  fixed : l.is_fixed ≡ true → l.outputs ≡ l.fn.outputs;
}
