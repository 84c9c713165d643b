use Rattle.std.proofs.Common.{◌≡◌, ◌≤◌, length, ◌+◌, ◌-◌, drop}
use Rattle.std.specs.List.{prefix_len}
use Rattle.tc_model.specs.XmlTextReferences.{is_plain}
use Rattle.tc_scan.proofs.blocks.plain_bytes_len.Given as goal

abbrev pub invariant-loop-at : goal.invariant-loop-at
invariant-loop-at l = record { within : l.at ≤ length l.bytes; count : l.at + prefix_len is_plain (drop l.at l.bytes) ≡ prefix_len is_plain l.bytes }

abbrev pub decreases-loop-at : goal.decreases-loop-at
decreases-loop-at l = length l.bytes - l.at
