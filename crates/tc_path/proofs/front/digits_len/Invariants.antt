use Rattle.std.proofs.Common.{◌≡◌, ◌+◌, drop}
use Rattle.std.specs.List.{prefix_len}
use Rattle.tc_model.specs.PathTextTokens.{is_digit}
use Rattle.tc_path.proofs.front.digits_len.Given as goal

abbrev pub invariant-loop-byte : goal.invariant-loop-byte
invariant-loop-byte l = record { count : l.count + prefix_len is_digit (drop l.byte-index l.text) ≡ prefix_len is_digit l.text; index : l.count ≡ l.byte-index }
