use Rattle.tc_model.specs.States.{input}
use Rattle.tc_incl.proofs.Stepped.{pattern_led}
use Rattle.tc_incl.proofs.HandedOn.{no_value}
use Rattle.tc_incl.proofs.sides.Side.after_pattern.Goals as goal

pub returns-clause-numbers : goal.returns-clause-numbers
returns-clause-numbers c = λ x st.
    pattern_led x c.args.number c.arrows.result.now c.args.states.now c.in_ok-next.next c.put_ends.new.ends (c.arrows.ensures.exact input x st) c.in_ok-next.ensures.numbers c.put_ends.ensures.numbers

pub returns-in_err-next-clause-size : goal.returns-in_err-next-clause-size
returns-in_err-next-clause-size c = no_value c.from_residual.result _ _ c.from_residual.ensures.1

pub returns-in_err-next-clause-numbers : goal.returns-in_err-next-clause-numbers
returns-in_err-next-clause-numbers c = no_value c.from_residual.result _ _ c.from_residual.ensures.1
