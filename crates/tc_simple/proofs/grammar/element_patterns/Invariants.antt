use Rattle.std.proofs.Common.{◌≡◌, map, take}
use Rattle.tc_model.specs.Views as seen
use Rattle.tc_simple.specs.Nodes.{see_element}
use Rattle.tc_simple.specs.Totals.{element_patterns_of}
use Rattle.tc_simple.proofs.grammar.element_patterns.Given as goal

abbrev pub invariant-loop-element : goal.invariant-loop-element
invariant-loop-element l = map seen.element_pattern l.out.items ≡ element_patterns_of l.table l.made (map see_element l.elements) (map see_element (take l.element-index l.elements))
