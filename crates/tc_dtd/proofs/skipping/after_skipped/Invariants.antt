use Rattle.std.proofs.Common.{IsUtf8, length}
use Rattle.tc_dtd.proofs.MarkupLaws.{Skips}
use Rattle.tc_dtd.proofs.skipping.after_skipped.Given as goal

abbrev pub invariant-loop-byte : goal.invariant-loop-byte
invariant-loop-byte l = record { so_far : Skips l.references l.text l.rest; text : IsUtf8 l.rest }

abbrev pub decreases-loop-byte : goal.decreases-loop-byte
decreases-loop-byte l = length l.rest
