use Rattle.std.proofs.Common.{◌∙◌}
use Rattle.tc_model.specs.Views as see
use Rattle.tc_steps.proofs.classes.Class.learn.Goals as goal

pub add_allowed-requires-clause-size : goal.add_allowed-requires-clause-size
add_allowed-requires-clause-size c = c.clear.ensures.size ∙ c.requires.numbers

pub enter-requires-clause-numbers : goal.enter-requires-clause-numbers
enter-requires-clause-numbers c = c.add_allowed.ensures.size ∙ (c.clear.ensures.size ∙ c.requires.numbers)

pub enter-requires-clause-size : goal.enter-requires-clause-size
enter-requires-clause-size c = c.requires.firsts

pub returns-clause-sized : goal.returns-clause-sized
returns-clause-sized c = record {
  numbers = c.add_allowed.ensures.size ∙ (c.clear.ensures.size ∙ c.requires.numbers);
  firsts = c.enter.ensures.size ∙ c.requires.firsts;
}

pub returns-clause-right : goal.returns-clause-right
returns-clause-right c = λ x st. record {
  allowed = c.add_allowed.ensures.allowed x st;
  led = c.enter.ensures.led x (see.name c.args.name.now) st (c.add_allowed.ensures.allowed x st);
}
