use Rattle.std.proofs.Common.{refl}
use Rattle.tc_rules.proofs.rows.Written.new.Goals as goal

pub returns-clause-bits : goal.returns-clause-bits
returns-clause-bits c = refl
