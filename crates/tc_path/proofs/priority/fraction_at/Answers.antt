use Rattle.tc_path.proofs.PriorityLaws.{no_fraction, some_fraction}
use Rattle.tc_path.proofs.priority.fraction_at.Goals as goal

pub returns-in-None-clause-fraction : goal.returns-in-None-clause-fraction
returns-in-None-clause-fraction c = no_fraction c.args.text.now c.in-None.ensures

pub returns-in-Some-clause-fraction : goal.returns-in-Some-clause-fraction
returns-in-Some-clause-fraction c = some_fraction c.args.text.now c.in-Some.rest.now c.digits.result.0.now c.digits.result.1.now c.in-Some.ensures c.digits.ensures.front c.digits.ensures.back
