use Rattle.std.proofs.Common.{◌≡◌, ◌+◌, drop}
use Rattle.std.specs.List.{prefix_len}
use Rattle.tc_base.specs.Characters.{is_white}
use Rattle.tc_scan.proofs.front.white_len.Given as goal

abbrev pub invariant-loop-byte : goal.invariant-loop-byte
invariant-loop-byte l = record { count : l.count + prefix_len is_white (drop l.byte-index l.text) ≡ prefix_len is_white l.text; index : l.count ≡ l.byte-index }
