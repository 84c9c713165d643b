use Rattle.std.proofs.Common.{take}
use Rattle.tc_graph.specs.Walks.{AreFinished}
use Rattle.tc_graph.proofs.cycles.finish.Given as goal

abbrev pub invariant-loop-number : goal.invariant-loop-number
invariant-loop-number l = AreFinished (take l.number-index l.row) l.component l.fn.states.items l.states.items
