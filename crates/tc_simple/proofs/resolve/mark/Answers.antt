use Rattle.std.proofs.Common.{ℕ, List, sym, subst, IfOk}
use Rattle.tc_graph.specs.Graph.{IsGraph, IsReached}
use Rattle.tc_simple.proofs.Checked.{graph_links}
use Rattle.tc_simple.proofs.Answered.{failed_ok}
use Rattle.tc_simple.proofs.resolve.mark.Goals as goal

pub reached-requires-clause-graph : goal.reached-requires-clause-graph
reached-requires-clause-graph c =
    subst IsGraph (sym c.in_ok-rows.ensures) (graph_links c.requires.table.0 c.args.table.now c.requires.table.1 c.args.within)

pub returns : goal.returns
returns c = subst (λ (g : List (List ℕ)). IfOk c.reached.result (λ v. IsReached g c.args.start v.items)) c.in_ok-rows.ensures c.reached.ensures

pub returns-in_err-rows : goal.returns-in_err-rows
returns-in_err-rows c = failed_ok c.from_residual.result _ _ c.from_residual.ensures.1
