use Rattle.std.proofs.Common.{◌≡◌, ◌+◌, drop}
use Rattle.std.specs.List.{prefix_len}
use Rattle.tc_dtd.specs.DtdTextDeclarations.{is_within}
use Rattle.tc_dtd.proofs.skipping.literal_len.Given as goal

abbrev pub invariant-loop-byte : goal.invariant-loop-byte
invariant-loop-byte l = record {
  count : l.count + prefix_len (is_within l.references l.quote) (drop l.byte-index l.text) ≡ prefix_len (is_within l.references l.quote) l.text;
  index : l.count ≡ l.byte-index;
}
