use Rattle.std.proofs.Common.{◌-◌, ◌≤◌, length, take, IsTrue}
use Rattle.std.specs.List.{list_all}
use Rattle.tc_scan.specs.Chars.{is_start_of_chars_only}
use Rattle.tc_scan.proofs.chars.start_blocks_len.Given as goal

abbrev pub invariant-loop-at : goal.invariant-loop-at
invariant-loop-at l = record { within : l.at ≤ length l.bytes; only : IsTrue (list_all is_start_of_chars_only (take l.at l.bytes)) }

abbrev pub decreases-loop-at : goal.decreases-loop-at
decreases-loop-at l = length l.bytes - l.at
