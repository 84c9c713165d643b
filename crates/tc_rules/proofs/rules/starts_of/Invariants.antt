use Rattle.std.proofs.Common.{◌≡◌, ◌+◌, ◌++◌, drop}
use Rattle.tc_rules.specs.Rows.{graphs}
use Rattle.tc_rules.specs.Selects.{starts_from}
use Rattle.tc_rules.specs.RulesView.{count_states}
use Rattle.tc_rules.proofs.rules.starts_of.Given as goal

abbrev pub invariant-loop-graph : goal.invariant-loop-graph
invariant-loop-graph l =
    (l.starts.items ++ starts_from l.before (graphs (drop l.graph-index l.graphs)) ≡ starts_from 0 (graphs l.graphs))
    × (l.before + count_states (graphs (drop l.graph-index l.graphs)) ≡ count_states (graphs l.graphs))
