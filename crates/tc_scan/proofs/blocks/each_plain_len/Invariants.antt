use Rattle.std.proofs.Common.{◌≡◌, ◌+◌, drop}
use Rattle.std.specs.List.{prefix_len}
use Rattle.tc_model.specs.XmlTextReferences.{is_plain}
use Rattle.tc_scan.proofs.blocks.each_plain_len.Given as goal

abbrev pub invariant-loop-byte : goal.invariant-loop-byte
invariant-loop-byte l = record { count : l.count + prefix_len is_plain (drop l.byte-index l.bytes) ≡ prefix_len is_plain l.bytes; index : l.count ≡ l.byte-index }
