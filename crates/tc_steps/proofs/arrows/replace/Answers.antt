use Rattle.std.proofs.Common.{rules}
use Rattle.tc_steps.proofs.arrows.replace.Goals as goal

pub returns-clause-numbers : goal.returns-clause-numbers
returns-clause-numbers c = search rules
