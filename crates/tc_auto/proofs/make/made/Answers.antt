use Rattle.std.proofs.Common.{arith}
use Rattle.tc_auto.proofs.make.made.Goals as goal

pub returns-then-total-from-clause-too_many : goal.returns-then-total-from-clause-too_many
returns-then-total-from-clause-too_many c = λ same. omega arith
