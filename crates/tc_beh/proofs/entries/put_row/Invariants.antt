use Rattle.std.proofs.Common.{◌≡◌, ◌<◌, ◌≤◌, ◌⊎◌, ◌+◌, ◌*◌, ℕ, List, get_or, true}
use Rattle.tc_mat.specs.Held.{Held}
use Rattle.tc_rows.specs.Triples.{Triple, moves}
use Rattle.tc_beh.specs.Entries.{AreGrounds, AreCalledOn, Comes}
use Rattle.tc_beh.specs.Held.{Extends}
use Rattle.tc_beh.specs.Places.{entries_by}
use Rattle.tc_beh.specs.Rooms.{output_at}
use Rattle.tc_beh.specs.RoomsOf.{IsRoomBeside}
use Rattle.tc_beh.specs.RowsOf.{IsWork}
use Rattle.tc_beh.proofs.entries.put_row.Given as goal

abbrev pub invariant-loop-state : goal.invariant-loop-state
invariant-loop-state l = record {
  work : (x : Triple) → AreGrounds x l.machine l.fn.outputs l.fn.work l.node → IsWork x l.machine l.outputs l.work;
  called : (x : Triple) → AreGrounds x l.machine l.fn.outputs l.fn.work l.node → l.is_ready ≡ true → AreCalledOn x l.fn.outputs l.node l.above l.work.named.items;
  beside : IsRoomBeside l.fn.out l.out;
  others : (k : ℕ) → (k < 2 + l.fn.out.flags) ⊎ (2 + l.fn.out.flags + l.fn.out.entries ≤ k) → get_or l.out.numbers.items k 0 ≡ get_or l.fn.out.numbers.items k 0;
  held : Extends l.fn.outputs l.outputs;
  comes : (x : Triple) (es : List (List (ℕ × ℕ))) (begun : Held) → AreGrounds x l.machine l.fn.outputs l.fn.work l.node → es ≡ entries_by l.fn.outputs.matrices l.node.entries.now
      → Comes x es l.node begun l.fn.outputs (output_at l.fn.out.flags l.fn.out.numbers.items) (l.ancestor * moves x)
      → Comes x es l.node begun l.outputs (output_at l.fn.out.flags l.out.numbers.items) (l.ancestor * moves x + l.state);
  fixed : l.is_fixed ≡ true → l.outputs ≡ l.fn.outputs;
}
