use Rattle.std.proofs.Common.{◌≡◌, map, take}
use Rattle.tc_model.specs.Views.{attribute}
use Rattle.tc_xml.proofs.TagLaws.{pair_expanded}
use Rattle.tc_xml.proofs.tags.are_expanded_once.Given as goal

abbrev pub invariant-loop-attribute : goal.invariant-loop-attribute
invariant-loop-attribute l = map pair_expanded l.names.items ≡ map (λ a. a.name) (map attribute (take l.attribute-index l.attributes))
