use Rattle.std.proofs.Common.{◌≡◌, List, map, drop}
use Rattle.tc_model.specs.RawTrees.{Bound}
use Rattle.tc_model.specs.XmlTextScopes.{scope_within}
use Rattle.tc_xml.specs.Tags.{written}
use Rattle.tc_xml.proofs.tags.declare_some.Given as goal

abbrev pub invariant-loop-attribute : goal.invariant-loop-attribute
invariant-loop-attribute l = (scope : List Bound) → scope_within scope (map written l.attributes) ≡ scope_within scope (map written (drop l.attribute-index l.attributes))
