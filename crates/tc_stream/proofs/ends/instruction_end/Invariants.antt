use Rattle.std.proofs.Common.{◌≡◌, ◌-◌, ◌≤◌, drop, length}
use Rattle.tc_stream.specs.Scans.{instruction_scan}
use Rattle.tc_stream.proofs.ends.instruction_end.Given as goal

abbrev pub invariant-loop-byte : goal.invariant-loop-byte
invariant-loop-byte l = record { same : instruction_scan l.count (drop l.byte-index l.text) ≡ instruction_scan l.fn.question l.text; left : l.left ≡ length l.text - l.byte-index; few : l.count ≤ 1 }
