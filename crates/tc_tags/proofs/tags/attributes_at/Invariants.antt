use Rattle.std.proofs.Common.{IsUtf8, length}
use Rattle.tc_tags.proofs.TagReadLaws.{Taken}
use Rattle.tc_tags.proofs.tags.attributes_at.Given as goal

abbrev pub invariant-loop-rest : goal.invariant-loop-rest
invariant-loop-rest l = record { so_far : Taken l.total l.text l.rest l.attributes.list.items; text : IsUtf8 l.rest }

abbrev pub decreases-loop-rest : goal.decreases-loop-rest
decreases-loop-rest l = length l.rest
