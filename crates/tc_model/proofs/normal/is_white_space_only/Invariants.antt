use Rattle.std.proofs.Common.{◌≡◌, drop}
use Rattle.tc_model.specs.Trees.{is_white_space_only}
use Rattle.tc_model.proofs.normal.is_white_space_only.Given as goal

abbrev pub invariant-loop-byte : goal.invariant-loop-byte
invariant-loop-byte l = is_white_space_only (drop l.byte-index l.byte-items) ≡ is_white_space_only l.text
