use Rattle.std.proofs.Common.{◌≡◌, ◌+◌, drop}
use Rattle.std.specs.List.{prefix_len}
use Rattle.tc_dtd.specs.DtdTextDeclarations.{is_skipped}
use Rattle.tc_dtd.proofs.skipping.skipped_len.Given as goal

abbrev pub invariant-loop-byte : goal.invariant-loop-byte
invariant-loop-byte l = record { count : l.count + prefix_len is_skipped (drop l.byte-index l.text) ≡ prefix_len is_skipped l.text; index : l.count ≡ l.byte-index }
