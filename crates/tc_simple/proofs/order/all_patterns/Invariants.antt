use Rattle.std.proofs.Common.{◌≡◌, length, map}
use Rattle.tc_model.specs.CompactSyntaxTrees.{Syntax}
use Rattle.tc_simple.specs.Nodes.{see_element}
use Rattle.tc_simple.specs.Orders.{AreMade, IsOrderly}
use Rattle.tc_simple.proofs.order.all_patterns.Given as goal

abbrev pub invariant-loop-number : goal.invariant-loop-number
invariant-loop-number l = record {
  size : length l.made ≡ length l.table.patterns.items;
  made : (s : Syntax) → IsOrderly s l.table l.marks l.walk.states.items l.walk.order.items → AreMade s (map see_element l.elements) l.table l.marks l.walk.states.items l.number-index l.made;
}
