use Rattle.std.proofs.Common.{rules}
use Rattle.tc_base.proofs.Unique.{unique_number}
use Rattle.tc_base.proofs.reasons.Why.number.Goals as goal

pub returns-clause-number : goal.returns-clause-number
returns-clause-number c = search rules

pub returns-clause-unique : goal.returns-clause-unique
returns-clause-unique c = λ other e. unique_number c.args.self other _ (returns-clause-number c) e
