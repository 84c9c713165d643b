use Rattle.std.proofs.Common.{◌≡◌, List, map, take, Some}
use Rattle.tc_model.specs.RawTrees.{Bound}
use Rattle.tc_xml.specs.Bindings.{Tells, now_bound}
use Rattle.tc_xml.specs.PlainTags.{as_written, as_expanded, expanded_name}
use Rattle.tc_xml.proofs.plain_tags.expand_all.Given as goal

abbrev pub invariant-loop-name : goal.invariant-loop-name
invariant-loop-name l =
    (scope : List Bound) → Tells (now_bound l.bindings) scope
    → map (expanded_name scope) (map as_written (take l.name-index l.names)) ≡ map Some (map as_expanded l.expanded.items)
