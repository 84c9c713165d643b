use Rattle.std.proofs.Common.{◌≡◌, ◌≤◌, ◌++◌, ℕ, List, length, map}
use Rattle.tc_io.specs.Sink.{Appended, AreWrites}
use Rattle.tc_answer.specs.Writing.{lines_of, whole}
use Rattle.tc_answer.proofs.write.write_lines.Given as goal

abbrev pub invariant-loop-rest : goal.invariant-loop-rest
invariant-loop-rest g l = record {
  count : g.K.Sink.faults l.fn.sink ≤ g.K.Sink.faults l.sink;
  so_far : (written : List ℕ) × (written ++ l.rest ≡ l.text) × Appended (g.K.Sink.written l.fn.sink) (g.K.Sink.written l.sink) written;
  lines : (before : List (List ℕ)) × (before ++ lines_of l.rest ≡ lines_of l.text) × AreWrites g.K.Sink.write_gives l.fn.sink (map whole before) l.sink;
}

abbrev pub decreases-loop-rest : goal.decreases-loop-rest
decreases-loop-rest g l = length l.rest
