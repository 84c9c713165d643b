use Rattle.std.proofs.Common.{◌∙◌}
use Rattle.tc_path.proofs.PriorityLaws.{parsed, written_below}
use Rattle.tc_path.proofs.priority.value_of.Goals as goal

pub returns-clause-value : goal.returns-clause-value
returns-clause-value c = c.unwrap_or.ensures ∙ parsed c.args.digits.now c.parse.result c.parse.ensures.value.0 c.requires.digits c.requires.short

pub returns-clause-below : goal.returns-clause-below
returns-clause-below c =
    written_below c.args.digits.now c.unwrap_or.result c.requires.digits (c.unwrap_or.ensures ∙ parsed c.args.digits.now c.parse.result c.parse.ensures.value.0 c.requires.digits c.requires.short)
