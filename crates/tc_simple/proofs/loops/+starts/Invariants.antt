use Rattle.std.proofs.Common.{◌≡◌, drop, false}
use Rattle.std.specs.List.{list_all}
use Rattle.tc_model.specs.SimplifiesFaults.{may_start}
use Rattle.tc_rnc.specs.Views as see
use Rattle.tc_simple.specs.Nodes.{nodes_of_all}
use Rattle.tc_simple.proofs.loops.+starts.Given as goal

abbrev pub invariant-may_all_start-loop-pattern : goal.invariant-may_all_start-loop-pattern
invariant-may_all_start-loop-pattern l = list_all may_start (nodes_of_all false (see.patterns l.patterns)) ≡ list_all may_start (nodes_of_all false (see.patterns (drop l.pattern-index l.patterns)))
