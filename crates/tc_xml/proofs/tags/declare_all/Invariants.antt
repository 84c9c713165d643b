use Rattle.std.proofs.Common.{◌≡◌, map, drop}
use Rattle.tc_model.specs.XmlTextScopes.{scope_within}
use Rattle.tc_xml.specs.Bounds.{named}
use Rattle.tc_xml.specs.Tags.{written}
use Rattle.tc_xml.proofs.tags.declare_all.Given as goal

abbrev pub invariant-loop-attribute : goal.invariant-loop-attribute
invariant-loop-attribute l = scope_within (named l.names) (map written (drop l.attribute-index l.attributes)) ≡ scope_within (named l.initial.names) (map written l.attributes)
