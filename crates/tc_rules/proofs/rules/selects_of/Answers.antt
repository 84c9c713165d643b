use Rattle.std.proofs.Common.{◌++◌, List, arith, ap, ◌∙◌, sym, subst, ◌<◌, ◌^◌, length}
use Rattle.std.proofs.lemmas.List.{drop_all}
use Rattle.tc_rules.specs.Rows.{graph, graphs}
use Rattle.tc_rules.specs.Selects.{selects_from}
use Rattle.tc_rules.specs.declared.rules.Select.{Select}
use Rattle.tc_rules.specs.declared.graph.Graph.{Graph}
use Rattle.tc_rules.proofs.Steps.{nothing_left}
use Rattle.tc_rules.proofs.SelectStates.{selects_at, graph_few}
use Rattle.tc_rules.proofs.rules.selects_of.Goals as goal

pub loop-i-preserved : goal.loop-i-preserved
loop-i-preserved c =
    selects_at c.loop-i.selects.items _ c.args.graphs.now c.loop-i.i c.index-graphs-i.result _ _ (omega arith)
    (c.len.ensures (subst (λ (g : Graph). length (graph g).states < 2 ^ 32) (sym c.index-graphs-i.is) (graph_few c.args.graphs.now c.loop-i.i c.index-graphs-i.result (omega arith) c.requires))
    ∙ ap (λ (g : Graph). length (graph g).states) c.index-graphs-i.is)
    c.in_ok-add_selects.ensures c.loop-i.invariant

pub loop-i-init : goal.loop-i-init
loop-i-init c = ap (λ (w : List Select). w ++ selects_from 0 (graphs c.args.graphs.now)) c.new-selects.ensures.items

pub returns : goal.returns
returns c =
    let i = c.loop-i.i in
    nothing_left c.loop-i.selects.items _ _ (ap (λ (l : List Graph). selects_from i (graphs l)) (drop_all i c.args.graphs.now c.loop-i-test.false)) c.loop-i.invariant
