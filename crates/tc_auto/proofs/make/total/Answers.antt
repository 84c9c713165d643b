use Rattle.std.proofs.Common.{◌+◌, refl}
use Rattle.tc_auto.specs.Stands.{side_of}
use Rattle.tc_auto.proofs.Totals.{total_step, total_done}
use Rattle.tc_auto.proofs.make.total.Goals as goal

pub loop-element-preserved : goal.loop-element-preserved
loop-element-preserved c =
    total_step c.args.grammar.now (side_of c.args.with_start) c.args.grammar.now.elements.now refl c.loop-element.element-index (c.loop-element.element-index + 1) _ c.loop-element-test.true refl c.loop-element.total c.state_count.result c.saturating_add-total.result c.loop-element.invariant c.state_count.ensures c.saturating_add-total.ensures

pub returns : goal.returns
returns c = total_done c.args.grammar.now (side_of c.args.with_start) c.args.grammar.now.elements.now refl c.loop-element.element-index c.loop-element.total c.loop-element-test.false c.loop-element.auto.element-index-end c.loop-element.invariant
