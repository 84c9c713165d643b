use Rattle.std.proofs.Common.{rules}
use Rattle.tc_print.proofs.escapes.Within.reference.Goals as goal

pub returns-in-13-default-clause-some : goal.returns-in-13-default-clause-some
returns-in-13-default-clause-some c = search rules
