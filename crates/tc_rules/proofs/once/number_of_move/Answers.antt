use Rattle.std.proofs.Common.{arith}
use Rattle.tc_model.specs.Numberings.{same_move}
use Rattle.tc_rules.specs.Views.{move}
use Rattle.tc_rules.proofs.Searched.{number_goes, number_found, number_past}
use Rattle.tc_rules.proofs.once.number_of_move.Goals as goal

pub loop-i-preserved : goal.loop-i-preserved
loop-i-preserved c = number_goes (move c.args.modes) same_move (move c.args.modes c.args.sought.now) _ c.args.numbered.now c.loop-i.i c.loop-i.invariant _ c.same_job.result c.loop-i-test.true c.same_job.ensures c.if-same_job.false

pub returns-then-same_job-clause-number : goal.returns-then-same_job-clause-number
returns-then-same_job-clause-number c = number_found (move c.args.modes) same_move (move c.args.modes c.args.sought.now) _ c.args.numbered.now c.loop-i.i c.loop-i.invariant _ c.same_job.result c.loop-i-test.true c.same_job.ensures c.if-same_job.true

pub returns-then-same_job-clause-bound : goal.returns-then-same_job-clause-bound
returns-then-same_job-clause-bound c = omega (arith, c.loop-i-test.true)

pub returns-clause-number : goal.returns-clause-number
returns-clause-number c = number_past (move c.args.modes) same_move (move c.args.modes c.args.sought.now) _ c.args.numbered.now c.loop-i.i c.loop-i.invariant _ c.loop-i-test.false (omega arith)
