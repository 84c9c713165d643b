use Rattle.std.proofs.Common.{◌∙◌}
use Rattle.tc_incl.proofs.HandedOn.{no_value}
use Rattle.tc_incl.proofs.sides.Side.steps.Goals as goal

pub returns : goal.returns
returns c = record {
  text_size = c.in_ok-text.ensures.size;
  text = c.in_ok-text.ensures.numbers;
  count = c.in_ok-elements.ensures.count;
  element_sizes = c.in_ok-elements.ensures.sizes;
  elements = c.in_ok-elements.ensures.numbers;
  taken_size = c.in_ok-taken.ensures.size ∙ c.args.self.now.ended;
  from_one = c.in_ok-taken.ensures.from_one;
  taken = c.in_ok-taken.ensures.numbers;
}

pub returns-in_err-text : goal.returns-in_err-text
returns-in_err-text c = no_value c.from_residual.result _ _ c.from_residual.ensures.1

pub returns-in_err-elements : goal.returns-in_err-elements
returns-in_err-elements c = no_value c.from_residual-in_err-elements.result _ _ c.from_residual-in_err-elements.ensures.1

pub returns-in_err-taken : goal.returns-in_err-taken
returns-in_err-taken c = no_value c.from_residual-in_err-taken.result _ _ c.from_residual-in_err-taken.ensures.1
