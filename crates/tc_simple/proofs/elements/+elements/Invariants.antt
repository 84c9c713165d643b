use Rattle.std.proofs.Common.{◌≡◌, ◌++◌, drop, map, true}
use Rattle.std.specs.List.{filter_map}
use Rattle.tc_rnc.specs.Views as see
use Rattle.tc_simple.specs.Nodes.{nodes_of_all, element_of, see_element}
use Rattle.tc_simple.proofs.elements.+elements.Given as goal

abbrev pub invariant-add_all_elements-loop-pattern : goal.invariant-add_all_elements-loop-pattern
invariant-add_all_elements-loop-pattern l =
    map see_element l.found.items ++ filter_map element_of (nodes_of_all true (see.patterns (drop l.pattern-index l.patterns)))
    ≡ map see_element l.fn.found.items ++ filter_map element_of (nodes_of_all true (see.patterns l.patterns))
