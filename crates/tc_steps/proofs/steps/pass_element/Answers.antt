use Rattle.std.proofs.Common.{sym, subst}
use Rattle.tc_steps.specs.Led.{AreLed}
use Rattle.tc_steps.proofs.LedLaws.{led_element}
use Rattle.tc_steps.proofs.steps.pass_element.Goals as goal

pub returns-clause-led : goal.returns-clause-led
returns-clause-led c = λ x n m kids inside st allowed ended led.
    subst (AreLed x n _) (sym c.swap.ensures.x_after)
    (led_element x m inside c.args.numbers.now c.args.ends.now allowed ended n kids c.args.states.now c.add_after.new.next led (c.add_after.ensures.numbers x st))
