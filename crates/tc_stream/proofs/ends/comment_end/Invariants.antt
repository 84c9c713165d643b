use Rattle.std.proofs.Common.{◌≡◌, ◌-◌, ◌≤◌, drop, length}
use Rattle.tc_stream.specs.Scans.{comment_scan}
use Rattle.tc_stream.proofs.ends.comment_end.Given as goal

abbrev pub invariant-loop-byte : goal.invariant-loop-byte
invariant-loop-byte l = record { same : comment_scan l.count (drop l.byte-index l.text) ≡ comment_scan l.fn.hyphens l.text; left : l.left ≡ length l.text - l.byte-index; few : l.count ≤ 2 }
