use Rattle.std.proofs.Common.{rules}
use Rattle.tc_print.proofs.print.Goals as goal

pub returns-clause-rose : goal.returns-clause-rose
returns-clause-rose g c = search rules
