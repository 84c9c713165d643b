use Rattle.std.proofs.Common.{◌≡◌, ◌++◌, drop}
use Rattle.tc_rules.specs.Rows.{graphs}
use Rattle.tc_rules.specs.Selects.{selects_from}
use Rattle.tc_rules.proofs.rules.selects_of.Given as goal

abbrev pub invariant-loop-i : goal.invariant-loop-i
invariant-loop-i l = l.selects.items ++ selects_from l.i (graphs (drop l.i l.graphs)) ≡ selects_from 0 (graphs l.graphs)
