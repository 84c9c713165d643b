use Rattle.std.proofs.Common.{◌≡◌, drop}
use Rattle.std.specs.List.{list_all}
use Rattle.tc_tags.specs.Written.{has_meaning}
use Rattle.tc_tags.proofs.rooms.are_bound.Given as goal

abbrev pub invariant-loop-attribute : goal.invariant-loop-attribute
invariant-loop-attribute l =
    list_all (has_meaning l.tag l.names.bytes.items l.scopes.declared.items) (drop l.attribute-index l.list) ≡ list_all (has_meaning l.tag l.names.bytes.items l.scopes.declared.items) l.list
