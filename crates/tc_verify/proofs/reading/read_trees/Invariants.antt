use Rattle.std.proofs.Common.{◌≡◌, ◌↔◌, ℕ, List, length, slice_get, Some}
use Rattle.std.specs.List.{Contains}
use Rattle.tc_beh.specs.declared.rooms.TRow.{TRow}
use Rattle.tc_verify.specs.Rooms.{IsReadTree, tree_numbers}
use Rattle.tc_verify.proofs.reading.read_trees.Given as goal

abbrev pub invariant-loop-place : goal.invariant-loop-place
invariant-loop-place l = record {
  count : length l.rooms.items ≡ l.place;
  each : (k : ℕ) (r : TRow) → slice_get l.rooms.items k ≡ Some r → IsReadTree l.machine l.cert k r;
  held : (ns : List ℕ) → Contains l.lists ns ↔ Contains (tree_numbers l.rooms.items) ns;
}
