use Rattle.std.proofs.Common.{◌≡◌, drop}
use Rattle.tc_tags.specs.Chained.{mixed}
use Rattle.tc_tags.proofs.chains.mixed.Given as goal

abbrev pub invariant-loop-byte : goal.invariant-loop-byte
invariant-loop-byte l = mixed l.hash (drop l.byte-index l.bytes) ≡ mixed l.start l.bytes
