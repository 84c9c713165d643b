use Rattle.std.proofs.Common.{◌+◌, length}
use Rattle.tc_graph.specs.Graph.{rows_of}
use Rattle.tc_graph.specs.Marks.{unmarked}
use Rattle.tc_graph.proofs.Marks.{IsWalked}
use Rattle.tc_graph.proofs.reach.reached.Given as goal

abbrev pub invariant-loop-number : goal.invariant-loop-number
invariant-loop-number l = IsWalked (rows_of l.rows) l.from l.marks.items l.pending.items

abbrev pub decreases-loop-number : goal.decreases-loop-number
decreases-loop-number l = unmarked l.marks.items + length l.pending.items
