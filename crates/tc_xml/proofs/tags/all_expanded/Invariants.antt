use Rattle.std.proofs.Common.{map, take}
use Rattle.tc_model.specs.Views.{attribute}
use Rattle.tc_model.specs.XmlTextScopes.{Expands}
use Rattle.tc_xml.specs.Tags.{in_scope}
use Rattle.tc_xml.specs.Tags.{written}
use Rattle.tc_xml.proofs.tags.all_expanded.Given as goal

abbrev pub invariant-loop-attribute : goal.invariant-loop-attribute
invariant-loop-attribute l = Expands (in_scope l.scope) (map written (take l.attribute-index l.attributes)) (map attribute l.found.items)
