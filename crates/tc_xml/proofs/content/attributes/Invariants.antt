use Rattle.std.proofs.Common.{length, map, IsUtf8}
use Rattle.tc_xml.specs.Tags.{written}
use Rattle.tc_xml.proofs.content.attributes.Given as goal
use Rattle.tc_tags.proofs.FormLaws.{Attributes}

abbrev pub invariant-loop-rest : goal.invariant-loop-rest
invariant-loop-rest l = record { so_far : Attributes l.total l.text l.rest (map written l.found.items); text : IsUtf8 l.rest }

abbrev pub decreases-loop-rest : goal.decreases-loop-rest
decreases-loop-rest l = length l.rest
