use Rattle.tc_steps.proofs.table.Steps.pass_text.Goals as goal

pub returns-clause-led : goal.returns-clause-led
returns-clause-led c = λ x n kids text f w led. c.pass_text.ensures.led x n kids text f.stands w led
