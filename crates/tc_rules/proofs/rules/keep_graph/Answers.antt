use Rattle.std.proofs.Common.{◌∙◌, ap}
use Rattle.std.proofs.lemmas.Result.{IfOk-from_err}
use Rattle.tc_rules.specs.Rows.{graph, graphs}
use Rattle.tc_rules.proofs.RowSteps.{map_push}
use Rattle.tc_rules.proofs.rules.keep_graph.Goals as goal

pub returns-in_err-push-clause-items : goal.returns-in_err-push-clause-items
returns-in_err-push-clause-items c = IfOk-from_err c.from_residual.result _ c.from_residual.ensures.0

pub returns-in_err-push-clause-graphs : goal.returns-in_err-push-clause-graphs
returns-in_err-push-clause-graphs c = IfOk-from_err c.from_residual.result _ c.from_residual.ensures.0

pub returns-clause-items : goal.returns-clause-items
returns-clause-items c = c.in_ok-push.ensures.items

pub returns-clause-graphs : goal.returns-clause-graphs
returns-clause-graphs c = ap graphs c.in_ok-push.ensures.items ∙ map_push graph c.args.graphs.now.items c.args.graph
