use Rattle.tc_model.specs.States.{input}
use Rattle.tc_incl.proofs.sides.Side.has_text.Goals as goal

pub returns : goal.returns
returns c = λ x st. c.has_text.ensures input x st
