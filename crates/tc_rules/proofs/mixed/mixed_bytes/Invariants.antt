use Rattle.std.proofs.Common.{◌≡◌, drop}
use Rattle.tc_rules.specs.Mixed.{mixed_bytes}
use Rattle.tc_rules.proofs.mixed.mixed_bytes.Given as goal

abbrev pub invariant-loop-byte : goal.invariant-loop-byte
invariant-loop-byte l = mixed_bytes l.hash (drop l.byte-index l.bytes) ≡ mixed_bytes l.start l.bytes
