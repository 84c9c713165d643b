use Rattle.std.proofs.Common.{◌≡◌, take}
use Rattle.tc_stream.specs.Cuts.{cut_bytes}
use Rattle.tc_stream.proofs.characters.cut_off.Given as goal

abbrev pub invariant-loop-byte : goal.invariant-loop-byte
invariant-loop-byte l = record { bytes : cut_bytes l.cut ≡ take l.byte-index l.bytes; count : l.cut.count ≡ l.byte-index }
