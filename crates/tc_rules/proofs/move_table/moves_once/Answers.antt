use Rattle.std.proofs.Common.{List, subst, sym, arith}
use Rattle.std.proofs.lemmas.Result.{IfOk-from_err}
use Rattle.tc_model.specs.Numbered.{each_once}
use Rattle.tc_model.specs.Numberings.{same_move}
use Rattle.tc_rules.specs.Jobs.{AreJobs}
use Rattle.tc_rules.specs.Views.{predicates, moves, move}
use Rattle.tc_rules.specs.declared.walk.Move.{Move}
use Rattle.tc_rules.proofs.Built.{handed_on}
use Rattle.tc_rules.proofs.Distinct.{looked_at}
use Rattle.tc_rules.proofs.JobsOf.{job_at}
use Rattle.tc_rules.proofs.MoveTables.{moves_passed}
use Rattle.tc_rules.proofs.Sameness.{once_begun, once_ended}
use Rattle.tc_rules.proofs.move_table.moves_once.Goals as goal

pub loop-sought-init : goal.loop-sought-init
loop-sought-init c = (
  c.in_ok-table.ensures.filed (predicates c.args.numbered.now) c.args.modes,
  once_begun same_move (move c.args.modes) (moves c.args.modes c.args.found.now) c.in_ok-table.table.moves.items c.in_ok-table.ensures.moves,
  λ x h. subst (λ (ms : List Move). AreJobs x ms) (sym c.in_ok-table.ensures.moves) tt,
)

pub keep-requires : goal.keep-requires
keep-requires c = c.loop-sought.invariant.0

pub loop-sought-preserved : goal.loop-sought-preserved
loop-sought-preserved c = (
  c.in_ok-keep.ensures.filed,
  looked_at same_move (move c.args.modes) (each_once same_move (moves c.args.modes c.args.found.now)) (moves c.args.modes c.loop-sought.table.moves.items) (moves c.args.modes c.keep.new.self.moves.items) c.args.found.now c.loop-sought.sought-index _ (omega arith) c.in_ok-keep.ensures.moves
      c.loop-sought.invariant.1,
  λ x h. c.in_ok-keep.ensures.jobs x (c.loop-sought.invariant.2 x h) (job_at x c.args.found.now c.loop-sought.sought-index _ (omega arith) h),
)

pub returns-in_err-keep-clause-cause : goal.returns-in_err-keep-clause-cause
returns-in_err-keep-clause-cause c =
    handed_on c.from_residual-in_err-keep.result c.in_err-keep.field-0.0 _ _ c.from_residual-in_err-keep.ensures.1
    (moves_passed c.args.modes c.args.found.now c.loop-sought.sought-index _ (moves c.args.modes c.loop-sought.table.moves.items) (omega arith) c.loop-sought.invariant.1) c.in_err-keep.ensures.cause

pub returns-clause-kept : goal.returns-clause-kept
returns-clause-kept c =
    once_ended same_move (move c.args.modes) (each_once same_move (moves c.args.modes c.args.found.now)) c.loop-sought.table.moves.items c.args.found.now c.loop-sought.sought-index c.loop-sought-test.false c.loop-sought.invariant.1

pub returns-clause-jobs : goal.returns-clause-jobs
returns-clause-jobs c = c.loop-sought.invariant.2

pub returns-in_err-table-clause-kept : goal.returns-in_err-table-clause-kept
returns-in_err-table-clause-kept c = IfOk-from_err c.from_residual.result _ c.from_residual.ensures.0

pub returns-in_err-table-clause-jobs : goal.returns-in_err-table-clause-jobs
returns-in_err-table-clause-jobs c = IfOk-from_err c.from_residual.result _ c.from_residual.ensures.0
