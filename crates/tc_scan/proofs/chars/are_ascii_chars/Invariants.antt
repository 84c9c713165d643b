use Rattle.std.proofs.Common.{◌≡◌, take}
use Rattle.std.specs.List.{list_all}
use Rattle.tc_scan.specs.Chars.{is_char_of_ascii}
use Rattle.tc_scan.proofs.chars.are_ascii_chars.Given as goal

abbrev pub invariant-loop-byte : goal.invariant-loop-byte
invariant-loop-byte l = l.plain ≡ list_all is_char_of_ascii (take l.byte-index l.bytes)
