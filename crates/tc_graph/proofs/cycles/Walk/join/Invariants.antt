use Rattle.std.proofs.Common.{◌≡◌, ◌<◌, ◌++◌, List, length}
use Rattle.std.specs.List.{All}
use Rattle.tc_graph.specs.Walks.{joined, seen}
use Rattle.tc_graph.specs.declared.cycles.Start.{Start}
use Rattle.tc_graph.proofs.cycles.Walk.join.Given as goal

abbrev pub invariant-loop-start : goal.invariant-loop-start
invariant-loop-start l = (gone : List Start) × (l.initial.self.starts.items ≡ l.self.starts.items ++ gone) × All (λ b. l.place < b.place) gone × (seen l.self ≡ joined l.self.starts.items (seen l.initial.self))

abbrev pub decreases-loop-start : goal.decreases-loop-start
decreases-loop-start l = length l.self.starts.items
