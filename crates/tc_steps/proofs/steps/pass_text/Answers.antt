use Rattle.std.proofs.Common.{sym, subst}
use Rattle.tc_model.specs.States.{input}
use Rattle.tc_steps.specs.Led.{AreLed}
use Rattle.tc_steps.proofs.Found.{text_led}
use Rattle.tc_steps.proofs.LedLaws.{led_text}
use Rattle.tc_steps.proofs.steps.pass_text.Goals as goal

pub returns-clause-led : goal.returns-clause-led
returns-clause-led c = λ x n kids text st w led.
    subst (AreLed x n _) (sym c.swap.ensures.x_after)
    (led_text x n kids text c.args.states.now c.add_ends.new.ends w led
    (text_led x c.text_arrows.result.now c.args.states.now c.clear.new.self c.add_ends.new.ends (c.text_arrows.ensures.exact input x st) c.clear.ensures.numbers c.add_ends.ensures.numbers))
