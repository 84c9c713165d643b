use Rattle.tc_auto.proofs.ArrowLists.{no_arrows, arrows_row, all_rows}
use Rattle.tc_auto.proofs.arrows.arrows_of.Goals as goal

pub loop-state-init : goal.loop-state-init
loop-state-init c = no_arrows c.args.leaf c.new-arrows.result.items c.new-arrows.ensures.items

pub loop-state-preserved : goal.loop-state-preserved
loop-state-preserved c =
    arrows_row c.args.rows.now c.args.leaf c.loop-state.state c.index-rows-state.result c.loop-state-test.true c.index-rows-state.is c.loop-state.arrows.items c.push_arrows_from.new.arrows.items c.loop-state.invariant c.in_ok-push_arrows_from.ensures

pub returns : goal.returns
returns c = all_rows c.args.rows.now c.args.leaf c.loop-state.state c.loop-state.arrows.items c.loop-state-test.false c.loop-state.invariant
