use Rattle.std.proofs.Common.{◌≡◌, map}
use Rattle.tc_model.specs.Views.{place}
use Rattle.tc_simple.specs.Nodes.{loops_below}
use Rattle.tc_simple.proofs.loops.loops.Given as goal

abbrev pub invariant-loop-number : goal.invariant-loop-number
invariant-loop-number l = map place l.found.items ≡ loops_below l.table l.walk.states.items l.marks l.number
