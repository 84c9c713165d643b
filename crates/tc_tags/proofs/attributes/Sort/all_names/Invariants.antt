use Rattle.std.proofs.Common.{◌≡◌, map, take}
use Rattle.tc_tags.specs.Listed.{all_parts, shown}
use Rattle.tc_tags.proofs.attributes.Sort.all_names.Given as goal

abbrev pub invariant-loop-attribute : goal.invariant-loop-attribute
invariant-loop-attribute l = map shown l.found.items ≡ all_parts l.self l.tag l.names.bytes.items l.scopes.declared.items (take l.attribute-index l.list)
