use Rattle.tc_auto.proofs.Totals.{total_with_start, total_without_start}
use Rattle.tc_auto.proofs.make.total_of_start.Goals as goal

pub returns-then-with_start : goal.returns-then-with_start
returns-then-with_start c = total_with_start c.args.grammar.now c.args.with_start _ c.if-with_start.true c.state_count.ensures

pub returns-else-with_start : goal.returns-else-with_start
returns-else-with_start c = total_without_start c.args.grammar.now c.args.with_start c.if-with_start.false
