use Rattle.tc_model.specs.States.{input}
use Rattle.tc_incl.proofs.Found.{text_led}
use Rattle.tc_incl.proofs.HandedOn.{no_value}
use Rattle.tc_incl.proofs.sides.Side.after_text.Goals as goal

pub returns-clause-numbers : goal.returns-clause-numbers
returns-clause-numbers c = λ x st.
    text_led x c.text_arrows.result.now c.args.states.now c.in_ok-next.next c.put_ends.new.ends (c.text_arrows.ensures.exact input x st) c.in_ok-next.ensures.numbers c.put_ends.ensures.numbers

pub returns-clause-set : goal.returns-clause-set
returns-clause-set c = c.size-size.ensures.set

pub returns-in_err-next-clause-set : goal.returns-in_err-next-clause-set
returns-in_err-next-clause-set c = no_value c.from_residual.result _ _ c.from_residual.ensures.1

pub returns-in_err-next-clause-size : goal.returns-in_err-next-clause-size
returns-in_err-next-clause-size c = no_value c.from_residual.result _ _ c.from_residual.ensures.1

pub returns-in_err-next-clause-numbers : goal.returns-in_err-next-clause-numbers
returns-in_err-next-clause-numbers c = no_value c.from_residual.result _ _ c.from_residual.ensures.1
