use Rattle.std.proofs.Common.{◌≡◌, ◌≤◌, Bor, List, length, subst, arith}
use Rattle.std.proofs.lemmas.List.{take_all}
use Rattle.tc_model.specs.declared.sheet.Path.{Path}
use Rattle.tc_rules.specs.Rows.{graph, graphs}
use Rattle.tc_rules.specs.Selects.{AreGraphs}
use Rattle.tc_rules.specs.Views.{looks, predicates}
use Rattle.tc_rules.proofs.HitRows.{know_more}
use Rattle.tc_rules.proofs.Built.{graphs_at, left_at, cause_at, handed_on}
use Rattle.tc_rules.proofs.rules.graphs_of.Goals as goal

pub loop-path-preserved : goal.loop-path-preserved
loop-path-preserved c =
    let few : length (graph c.in_ok-graph.graph).states ≤ c.loop-path.left = c.in_ok-graph.ensures.few in
    let so_far = c.loop-path.invariant.0 in
    let size : c.len.result ≡ length (graph c.in_ok-graph.graph).states = c.len.ensures (omega (arith, few, so_far)) in (
      left_at (graphs c.loop-path.graphs.items) (graphs c.keep_graph.new.graphs.items) (graph c.in_ok-graph.graph) c.loop-path.left c.len.result c.in_ok-keep_graph.ensures.graphs size (omega (arith, size, few)) so_far,
      graphs_at c.args.source.now c.args.paths.now c.loop-path.path-index _ (graphs c.loop-path.graphs.items) (graphs c.keep_graph.new.graphs.items) (graph c.in_ok-graph.graph) (omega arith) c.in_ok-keep_graph.ensures.graphs c.loop-path.invariant.1 c.in_ok-graph.ensures.graph,
      know_more c.loop-path.graphs.items c.keep_graph.new.graphs.items c.in_ok-graph.graph c.in_ok-keep_graph.ensures.items c.loop-path.invariant.2 c.in_ok-graph.ensures.ending,
    )

pub returns-in_err-graph-clause-cause : goal.returns-in_err-graph-clause-cause
returns-in_err-graph-clause-cause c =
    handed_on c.from_residual.result c.in_err-graph.field-0.0 _ _ c.from_residual.ensures.1
    (cause_at c.args.source.now c.args.paths.now c.loop-path.path-index _ (graphs c.loop-path.graphs.items) c.loop-path.left (omega arith) c.loop-path.invariant.0 c.loop-path.invariant.1) c.in_err-graph.ensures.cause

pub next_graph-requires-clause-few : goal.next_graph-requires-clause-few
next_graph-requires-clause-few c = omega (arith, c.loop-path.invariant.0)

pub returns-clause-graphs : goal.returns-clause-graphs
returns-clause-graphs c = λ symbols h.
    subst (λ (l : List (Bor Path)). AreGraphs symbols (predicates c.args.source.now.predicates.items) (looks l) (graphs c.loop-path.graphs.items)) (take_all c.loop-path.path-index c.args.paths.now c.loop-path-test.false) (c.loop-path.invariant.1 symbols h)

pub returns-clause-few : goal.returns-clause-few
returns-clause-few c = omega (arith, c.loop-path.invariant.0)

pub returns-clause-ending : goal.returns-clause-ending
returns-clause-ending c = c.loop-path.invariant.2
