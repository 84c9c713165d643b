use Rattle.tc_auto.proofs.ArrowLists.{gains_nothing, gains_edge, gained_edges}
use Rattle.tc_auto.proofs.arrows.push_arrows_from.Goals as goal

pub loop-edge-init : goal.loop-edge-init
loop-edge-init c = gains_nothing c.args.arrows.now.items c.args.from c.args.leaf

pub loop-edge-preserved : goal.loop-edge-preserved
loop-edge-preserved c = gains_edge c.args.from c.deref-edge-items.result.now c.args.leaf c.loop-edge.edge-index _ c.loop-edge-test.true c.args.arrows.now.items c.loop-edge.arrows.items c.push_arrow.new.arrows.items c.loop-edge.invariant c.in_ok-push_arrow.ensures

pub returns : goal.returns
returns c = gained_edges c.args.from c.deref-edge-items.result.now c.args.row.now.edges.items c.args.leaf c.loop-edge.edge-index c.args.arrows.now.items c.loop-edge.arrows.items c.loop-edge-test.false c.deref-edge-items.ensures.value c.loop-edge.invariant
