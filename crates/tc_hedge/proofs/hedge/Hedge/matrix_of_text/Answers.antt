use Rattle.std.proofs.Common.{rules, ◌∙◌}
use Rattle.std.proofs.lemmas.Result.{IfOk-from_err}
use Rattle.tc_hedge.proofs.Gathers.{for_ok}
use Rattle.tc_hedge.proofs.Sides.{both_of, nothing_led, white_led, text_led}
use Rattle.tc_hedge.proofs.hedge.Hedge.matrix_of_text.Goals as goal

pub returns-then-is_white_space_only-clause-pairs : goal.returns-then-is_white_space_only-clause-pairs
returns-then-is_white_space_only-clause-pairs c =
    both_of c.identity.result c.identity.ensures.size c.identity.ensures.pairs
    (λ m size is side x st. white_led x side c.args.text.now m (search rules) (nothing_led x side c.args.self.now.auto st m (size ∙ c.states-states.ensures.here) is))

pub returns-clause-pairs : goal.returns-clause-pairs
returns-clause-pairs c = λ side x st. text_led x side c.args.text.now c.text_into.new.out (search rules) (c.text_into.ensures.pairs side x st)

pub returns-then-is_white_space_only-clause-size : goal.returns-then-is_white_space_only-clause-size
returns-then-is_white_space_only-clause-size c = for_ok c.identity.result c.identity.ensures.size (λ m size. size ∙ c.states-states.ensures.here)

pub returns-then-is_white_space_only-clause-matrix : goal.returns-then-is_white_space_only-clause-matrix
returns-then-is_white_space_only-clause-matrix c = c.identity.ensures.matrix

pub returns-in_err-led-clause-size : goal.returns-in_err-led-clause-size
returns-in_err-led-clause-size c = IfOk-from_err c.from_residual.result _ c.from_residual.ensures.0

pub returns-in_err-led-clause-matrix : goal.returns-in_err-led-clause-matrix
returns-in_err-led-clause-matrix c = IfOk-from_err c.from_residual.result _ c.from_residual.ensures.0

pub returns-in_err-led-clause-pairs : goal.returns-in_err-led-clause-pairs
returns-in_err-led-clause-pairs c = IfOk-from_err c.from_residual.result _ c.from_residual.ensures.0

pub text_into-requires : goal.text_into-requires
text_into-requires c = c.in_ok-led.ensures.size ∙ c.states-states.ensures.here

pub returns-clause-size : goal.returns-clause-size
returns-clause-size c = c.text_into.ensures.size ∙ (c.in_ok-led.ensures.size ∙ c.states-states.ensures.here)

pub returns-clause-matrix : goal.returns-clause-matrix
returns-clause-matrix c = c.text_into.ensures.matrix
