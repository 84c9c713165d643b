use Rattle.std.proofs.Common.{◌≡◌, map, take}
use Rattle.tc_xml.specs.Tags.{written}
use Rattle.tc_xml.proofs.TagLaws.{pair_name}
use Rattle.tc_xml.proofs.tags.are_written_once.Given as goal

abbrev pub invariant-loop-attribute : goal.invariant-loop-attribute
invariant-loop-attribute l = map pair_name l.names.items ≡ map (λ a. a.name) (map written (take l.attribute-index l.attributes))
