use Rattle.std.proofs.Common.{◌≡◌, ◌++◌, drop}
use Rattle.std.specs.List.{filter_map}
use Rattle.tc_rnc.specs.Views as see
use Rattle.tc_simple.specs.Nodes.{nodes_of_all, target}
use Rattle.tc_simple.proofs.links.+links.Given as goal

abbrev pub invariant-add_all_links-loop-pattern : goal.invariant-add_all_links-loop-pattern
invariant-add_all_links-loop-pattern l =
    l.found.items ++ filter_map (target l.table) (nodes_of_all l.within (see.patterns (drop l.pattern-index l.patterns)))
    ≡ l.fn.found.items ++ filter_map (target l.table) (nodes_of_all l.within (see.patterns l.patterns))
