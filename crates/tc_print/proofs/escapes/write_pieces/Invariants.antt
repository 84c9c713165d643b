use Rattle.std.proofs.Common.{◌≡◌, ◌≤◌, ◌-◌, take, drop}
use Rattle.std.specs.List.{flat_map}
use Rattle.tc_io.specs.Sink.{Appended}
use Rattle.tc_print.specs.Pieces.{escaped}
use Rattle.tc_print.proofs.escapes.write_pieces.Given as goal

abbrev pub invariant-loop-place : goal.invariant-loop-place
invariant-loop-place g l = record {
  in_order : l.written ≤ l.place;
  count : g.K.Sink.faults l.fn.sink ≤ g.K.Sink.faults l.sink;
  plain : flat_map (escaped l.within) (take (l.place - l.written) (drop l.written l.bytes)) ≡ take (l.place - l.written) (drop l.written l.bytes);
  so_far : Appended (g.K.Sink.written l.fn.sink) (g.K.Sink.written l.sink) (flat_map (escaped l.within) (take l.written l.bytes));
}
