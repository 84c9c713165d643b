use Rattle.tc_simple.specs.Nodes.{StartsWell}
use Rattle.tc_simple.proofs.loops.starts_well.Given as goal

abbrev pub invariant-loop-number : goal.invariant-loop-number
invariant-loop-number l = StartsWell l.table l.marks l.number
