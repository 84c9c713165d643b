use Rattle.std.proofs.Common.{◌≡◌, ◌+◌, ◌++◌, take}
use Rattle.tc_stream.specs.Cuts.{cut_bytes}
use Rattle.tc_stream.proofs.pieces.joined.Given as goal

abbrev pub invariant-loop-byte : goal.invariant-loop-byte
invariant-loop-byte l = record { bytes : cut_bytes l.all ≡ cut_bytes l.fn.cut ++ take l.byte-index l.more; count : l.all.count ≡ l.fn.cut.count + l.byte-index }
