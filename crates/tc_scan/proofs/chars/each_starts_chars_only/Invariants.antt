use Rattle.std.proofs.Common.{◌≡◌, take}
use Rattle.std.specs.List.{list_all}
use Rattle.tc_scan.specs.Chars.{is_start_of_chars_only}
use Rattle.tc_scan.proofs.chars.each_starts_chars_only.Given as goal

abbrev pub invariant-loop-byte : goal.invariant-loop-byte
invariant-loop-byte l = l.plain ≡ list_all is_start_of_chars_only (take l.byte-index l.bytes)
