use Rattle.std.proofs.Common.{ℕ, List, sym, subst, false, IfOk}
use Rattle.tc_graph.specs.Graph.{IsGraph}
use Rattle.tc_graph.specs.Walks.{AreComponents}
use Rattle.tc_simple.proofs.Checked.{graph_links}
use Rattle.tc_simple.proofs.resolve.walk.Goals as goal

pub components-requires : goal.components-requires
components-requires c =
    subst IsGraph (sym c.in_ok-rows.ensures) (graph_links c.requires.0 c.args.table.now c.requires.1 false)

pub returns : goal.returns
returns c = subst (λ (g : List (List ℕ)). IfOk c.components.result (λ w. AreComponents g w.states.items w.order.items)) c.in_ok-rows.ensures c.components.ensures
