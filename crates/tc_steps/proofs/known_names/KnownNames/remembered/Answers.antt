use Rattle.std.proofs.Common.{rules}
use Rattle.tc_steps.proofs.known_names.KnownNames.remembered.Goals as goal

pub returns-then-eq-2 : goal.returns-then-eq-2
returns-then-eq-2 c = search rules
