use Rattle.std.proofs.Common.{◌≡◌, ◌+◌, List, take}
use Rattle.tc_model.specs.Symbols.{Mention}
use Rattle.tc_rules.specs.Classes.{IsSourceOf}
use Rattle.tc_rules.specs.Rows.{graphs, AllKeepEndings}
use Rattle.tc_rules.specs.Views.{predicates, looks}
use Rattle.tc_rules.specs.Selects.{AreGraphs}
use Rattle.tc_rules.specs.RulesView.{count_states}
use Rattle.tc_rules.proofs.rules.graphs_of.Given as goal

abbrev pub invariant-loop-path : goal.invariant-loop-path
invariant-loop-path l =
    (l.left + count_states (graphs l.graphs.items) ≡ 4096)
    × ((symbols : List Mention) → IsSourceOf symbols l.source → AreGraphs symbols (predicates l.source.predicates.items) (looks (take l.path-index l.paths)) (graphs l.graphs.items))
    × AllKeepEndings l.graphs.items
