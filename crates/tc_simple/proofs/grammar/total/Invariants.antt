use Rattle.std.proofs.Common.{◌≡◌, drop, map}
use Rattle.tc_simple.specs.Nodes.{see_element}
use Rattle.tc_simple.specs.Totals.{total_of}
use Rattle.tc_simple.proofs.grammar.total.Given as goal

abbrev pub invariant-loop-element : goal.invariant-loop-element
invariant-loop-element l = total_of l.table l.sizes l.all (map see_element (drop l.element-index l.elements)) ≡ total_of l.table l.sizes l.fn.start (map see_element l.elements)
