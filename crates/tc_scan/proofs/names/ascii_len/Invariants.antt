use Rattle.std.proofs.Common.{◌≡◌, ◌+◌, drop}
use Rattle.std.specs.List.{prefix_len}
use Rattle.tc_scan.specs.Names.{is_ascii_name_byte}
use Rattle.tc_scan.proofs.names.ascii_len.Given as goal

abbrev pub invariant-loop-byte : goal.invariant-loop-byte
invariant-loop-byte l = record { count : l.count + prefix_len is_ascii_name_byte (drop l.byte-index l.text) ≡ prefix_len is_ascii_name_byte l.text; index : l.count ≡ l.byte-index }
