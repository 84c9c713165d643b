use Rattle.std.proofs.Common.{◌≡◌, ◌↔◌, ℕ, List, length, slice_get, Some}
use Rattle.std.specs.List.{Contains}
use Rattle.tc_beh.specs.declared.rooms.HRow.{HRow}
use Rattle.tc_verify.specs.Rooms.{IsReadHedge, hedge_numbers}
use Rattle.tc_verify.proofs.reading.read_hedges.Given as goal

abbrev pub invariant-loop-place : goal.invariant-loop-place
invariant-loop-place l = record {
  count : length l.rooms.items ≡ l.place;
  each : (k : ℕ) (r : HRow) → slice_get l.rooms.items k ≡ Some r → IsReadHedge l.machine l.cert k r;
  held : (ns : List ℕ) → Contains l.lists ns ↔ Contains (hedge_numbers l.rooms.items) ns;
}
