use Rattle.std.proofs.Common.{◌≡◌, ◌-◌, ◌≤◌, drop, length}
use Rattle.tc_stream.specs.Scans.{cdata_scan}
use Rattle.tc_stream.proofs.ends.cdata_end.Given as goal

abbrev pub invariant-loop-byte : goal.invariant-loop-byte
invariant-loop-byte l = record { same : cdata_scan l.count (drop l.byte-index l.text) ≡ cdata_scan l.fn.brackets l.text; left : l.left ≡ length l.text - l.byte-index; few : l.count ≤ 2 }
