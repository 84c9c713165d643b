use Rattle.std.proofs.Common.{IsUtf8, length}
use Rattle.tc_dtd.specs.Views.{names}
use Rattle.tc_dtd.proofs.ContentsLaws.{Lists}
use Rattle.tc_dtd.proofs.contents.put_mixed_names.Given as goal

-- the names so far; the rest is text
abbrev pub invariant-loop-next : goal.invariant-loop-next
invariant-loop-next l = record { so_far : Lists l.text l.rest (names l.all.items); text : IsUtf8 l.rest }

abbrev pub decreases-loop-next : goal.decreases-loop-next
decreases-loop-next l = length l.rest
