use Rattle.std.proofs.Common.{refl}
use Rattle.tc_rules.specs.Usages.{moves_in_usage}
use Rattle.tc_rules.specs.Views.{moves, usage}
use Rattle.tc_rules.proofs.Steps.{told_item, told_all}
use Rattle.tc_rules.proofs.gather.moves_of_usages.Goals as goal

pub loop-usage-init : goal.loop-usage-init
loop-usage-init c = λ k. refl

pub loop-usage-preserved : goal.loop-usage-preserved
loop-usage-preserved c = λ k.
    told_item (moves_in_usage k) usage (moves k c.loop-usage.found.items) (moves k c.moves_in_usage.new.found.items) _ c.args.used.now c.loop-usage.usage-index c.usage-item.result c.loop-usage-test.true c.usage-item.is
    (c.in_ok-moves_in_usage.ensures k) (c.loop-usage.invariant k)

pub returns : goal.returns
returns c = λ k. told_all (moves_in_usage k) usage (moves k c.loop-usage.found.items) _ c.args.used.now c.loop-usage.usage-index c.loop-usage-test.false (c.loop-usage.invariant k)
