use Rattle.std.proofs.Common.{arith}
use Rattle.tc_run.proofs.output.Output.count.Goals as goal

pub returns-then-self-lt-MOST_WORK-clause-ok : goal.returns-then-self-lt-MOST_WORK-clause-ok
returns-then-self-lt-MOST_WORK-clause-ok c = (omega arith, omega arith)
