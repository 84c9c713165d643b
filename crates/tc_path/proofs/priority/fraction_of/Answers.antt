use Rattle.std.proofs.Common.{length}
use Rattle.tc_path.proofs.PriorityLaws.{scaled_below}
use Rattle.tc_path.proofs.priority.fraction_of.Goals as goal

pub returns-clause-below : goal.returns-clause-below
returns-clause-below c = scaled_below c.value_of.result (length c.args.digits.now) c.unit_of.result c.requires.short c.value_of.ensures.below c.unit_of.ensures
