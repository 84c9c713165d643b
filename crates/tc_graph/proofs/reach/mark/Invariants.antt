use Rattle.std.proofs.Common.{take}
use Rattle.tc_graph.specs.Marks.{Marks}
use Rattle.tc_graph.proofs.reach.mark.Given as goal

abbrev pub invariant-loop-to : goal.invariant-loop-to
invariant-loop-to l = Marks (take l.to-index l.row) l.fn.marks.items l.marks.items l.fn.pending.items l.pending.items
