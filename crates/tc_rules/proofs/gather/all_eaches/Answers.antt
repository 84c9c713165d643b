use Rattle.std.proofs.Common.{arith}
use Rattle.tc_model.specs.Views as see
use Rattle.tc_rules.specs.Gathered.{bodies}
use Rattle.tc_rules.proofs.Collected.{each_fits, none_put, put_at, all_put}
use Rattle.tc_rules.proofs.gather.all_eaches.Goals as goal

pub loop-usage-init : goal.loop-usage-init
loop-usage-init c = (omega (arith, c.in_ok-bodies.ensures.len), none_put (bodies c.in_ok-bodies.bodies.items))

pub put_body-requires : goal.put_body-requires
put_body-requires c =
    each_fits (see.sheet c.args.sheet.now) c.requires.sheet c.args.used.now c.requires.used c.loop-usage.usage-index c.usage-item.result _ c.loop-usage-test.true c.usage-item.is c.loop-usage.invariant.0

pub loop-usage-preserved : goal.loop-usage-preserved
loop-usage-preserved c =
    put_at (see.sheet c.args.sheet.now) c.requires.sheet c.args.used.now c.requires.used c.loop-usage.bodies.items _ c.loop-usage.usage-index c.usage-item.result c.loop-usage-test.true c.usage-item.is c.loop-usage.invariant.0 c.put_body.ensures c.loop-usage.invariant.1

pub returns-clause-bodies : goal.returns-clause-bodies
returns-clause-bodies c =
    all_put (see.sheet c.args.sheet.now) c.requires.sheet c.args.used.now c.requires.used _ c.loop-usage.usage-index c.loop-usage-test.false c.loop-usage.invariant.1
