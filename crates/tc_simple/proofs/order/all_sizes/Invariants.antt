use Rattle.std.proofs.Common.{◌≡◌, List, length}
use Rattle.tc_model.specs.CompactSyntaxTrees.{Syntax}
use Rattle.tc_model.specs.Simplifies.{Element}
use Rattle.tc_simple.specs.Orders.{AreSized, IsOrderly}
use Rattle.tc_simple.proofs.order.all_sizes.Given as goal

abbrev pub invariant-loop-number : goal.invariant-loop-number
invariant-loop-number l = record {
  size : length l.sizes ≡ length l.table.patterns.items;
  sized : (s : Syntax) (es : List Element) → IsOrderly s l.table l.marks l.walk.states.items l.walk.order.items → AreSized s es l.table l.marks l.walk.states.items l.number-index l.sizes;
}
