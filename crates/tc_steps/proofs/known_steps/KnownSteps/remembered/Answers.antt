use Rattle.std.proofs.Common.{rules}
use Rattle.tc_steps.proofs.known_steps.KnownSteps.remembered.Goals as goal

pub returns-then-is_same_child : goal.returns-then-is_same_child
returns-then-is_same_child c = search rules
