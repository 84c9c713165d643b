use Rattle.std.proofs.Common.{refl}
use Rattle.tc_rules.specs.Usages.{looks_in_usage}
use Rattle.tc_rules.specs.Views.{looks, usage}
use Rattle.tc_rules.proofs.Steps.{told_item, told_all}
use Rattle.tc_rules.proofs.gather.looks_of_usages.Goals as goal

pub loop-usage-init : goal.loop-usage-init
loop-usage-init c = refl

pub loop-usage-preserved : goal.loop-usage-preserved
loop-usage-preserved c =
    told_item looks_in_usage usage (looks c.loop-usage.found.items) (looks c.looks_in_usage.new.found.items) _ c.args.used.now c.loop-usage.usage-index c.usage-item.result c.loop-usage-test.true c.usage-item.is
    c.in_ok-looks_in_usage.ensures c.loop-usage.invariant

pub returns : goal.returns
returns c = told_all looks_in_usage usage (looks c.loop-usage.found.items) _ c.args.used.now c.loop-usage.usage-index c.loop-usage-test.false c.loop-usage.invariant
