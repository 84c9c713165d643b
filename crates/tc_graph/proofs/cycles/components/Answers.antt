use Rattle.std.proofs.Common.{arith}
use Rattle.tc_graph.proofs.Marks.{count_rows}
use Rattle.tc_graph.proofs.Walks.{all_done, walk_begun}
use Rattle.tc_graph.proofs.cycles.components.Goals as goal

pub returns : goal.returns
returns c = all_done c.loop-number.invariant.walk c.loop-number.invariant.empty (λ v h. c.loop-number.invariant.old v (omega (arith, h, count_rows c.args.rows.now)))

pub loop-number-init : goal.loop-number-init
loop-number-init c = record {
  walk = walk_begun c.args.rows.now c.in_ok-vec.field-0.items c.new.result.items c.new-2.result.items c.new-3.result.items c.new-4.result.items
      (c.in_ok-vec.ensures.items_if_clones_equal (λ y e. e)) c.new.ensures.items c.new-2.ensures.items c.new-3.ensures.items c.new-4.ensures.items;
  empty = c.new.ensures.items;
  old = λ v h. absurd (omega (arith, h));
}
