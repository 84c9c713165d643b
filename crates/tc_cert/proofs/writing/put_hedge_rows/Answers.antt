use Rattle.std.proofs.Common.{arith, suc, ◌-◌, ◌≤◌, length}
use Rattle.tc_model.specs.CertificateLines as lines
use Rattle.tc_cert.specs.Texts as texts
use Rattle.tc_cert.specs.Puts.{IsCause}
use Rattle.tc_cert.proofs.Puts.{both, at_first, at_second, ended, begun}
use Rattle.tc_cert.proofs.Loops.{no_row, first_row}
use Rattle.tc_cert.proofs.Steps.{row_step, row_cause, same_error, not_done, rows_cause}
use Rattle.tc_cert.proofs.writing.put_hedge_rows.Goals as goal

pub returns-in_err-put_hedge_behind-clause-cause : goal.returns-in_err-put_hedge_behind-clause-cause
returns-in_err-put_hedge_behind-clause-cause c =
    same_error (IsCause c.args.text.now (texts.rows_in lines.hedge_line lines.hedge_behind c.args.hedges.now)) c.from_residual-in_err-put_hedge_behind.result c.in_err-put_hedge_behind.field-0.0 c.from_residual-in_err-put_hedge_behind.ensures.1
    (row_cause lines.hedge_behind c.args.hedges.now c.loop-i.i c.get-before.result.now c.get-line.result.now c.loop-i.auto.i c.get-before.ensures c.get-line.ensures c.loop-i.invariant (at_first _ c.in_err-put_hedge_behind.ensures.cause))

pub returns-in_err-put-2-clause-cause : goal.returns-in_err-put-2-clause-cause
returns-in_err-put-2-clause-cause c =
    same_error (IsCause c.args.text.now (texts.rows_in lines.hedge_line lines.hedge_behind c.args.hedges.now)) c.from_residual-in_err-put-2.result c.in_err-put-2.field-0.0 c.from_residual-in_err-put-2.ensures.1
    (row_cause lines.hedge_behind c.args.hedges.now c.loop-i.i c.get-before.result.now c.get-line.result.now c.loop-i.auto.i c.get-before.ensures c.get-line.ensures c.loop-i.invariant (at_second c.in_ok-put_hedge_behind.ensures.ok c.in_err-put-2.ensures.cause))

pub loop-i-preserved : goal.loop-i-preserved
loop-i-preserved c = row_step lines.hedge_behind c.args.hedges.now c.loop-i.i c.get-before.result.now c.get-line.result.now c.loop-i.auto.i c.get-before.ensures c.get-line.ensures c.loop-i.invariant (both c.in_ok-put_hedge_behind.ensures.ok c.in_ok-put-2.ensures.ok)

pub returns-clause-ok : goal.returns-clause-ok
returns-clause-ok c =
    let past : length c.args.hedges.now ≤ suc (c.loop-i.i - 1) = omega arith in
    ended c.loop-i.invariant (no_row lines.hedge_behind c.args.hedges.now (c.loop-i.i - 1) past)

pub returns-in_err-put_hedge_line-clause-ok : goal.returns-in_err-put_hedge_line-clause-ok
returns-in_err-put_hedge_line-clause-ok c = not_done c.from_residual.result _ _ c.from_residual.ensures.1

pub returns-in_err-put-clause-ok : goal.returns-in_err-put-clause-ok
returns-in_err-put-clause-ok c = not_done c.from_residual-in_err-put.result _ _ c.from_residual-in_err-put.ensures.1

pub returns-in_err-put_hedge_behind-clause-ok : goal.returns-in_err-put_hedge_behind-clause-ok
returns-in_err-put_hedge_behind-clause-ok c = not_done c.from_residual-in_err-put_hedge_behind.result _ _ c.from_residual-in_err-put_hedge_behind.ensures.1

pub returns-in_err-put-2-clause-ok : goal.returns-in_err-put-2-clause-ok
returns-in_err-put-2-clause-ok c = not_done c.from_residual-in_err-put-2.result _ _ c.from_residual-in_err-put-2.ensures.1

pub returns-in_err-put_hedge_line-clause-cause : goal.returns-in_err-put_hedge_line-clause-cause
returns-in_err-put_hedge_line-clause-cause c =
    same_error (IsCause c.args.text.now (texts.rows_in lines.hedge_line lines.hedge_behind c.args.hedges.now)) c.from_residual.result c.in_err-put_hedge_line.field-0.0 c.from_residual.ensures.1
    (rows_cause lines.hedge_line lines.hedge_behind c.args.hedges.now c.get-first.result.now c.get-first.ensures (at_first _ c.in_err-put_hedge_line.ensures.cause))

pub returns-in_err-put-clause-cause : goal.returns-in_err-put-clause-cause
returns-in_err-put-clause-cause c =
    same_error (IsCause c.args.text.now (texts.rows_in lines.hedge_line lines.hedge_behind c.args.hedges.now)) c.from_residual-in_err-put.result c.in_err-put.field-0.0 c.from_residual-in_err-put.ensures.1
    (rows_cause lines.hedge_line lines.hedge_behind c.args.hedges.now c.get-first.result.now c.get-first.ensures (at_second c.in_ok-put_hedge_line.ensures.ok c.in_err-put.ensures.cause))

pub loop-i-init : goal.loop-i-init
loop-i-init c = begun (both c.in_ok-put_hedge_line.ensures.ok c.in_ok-put.ensures.ok) (first_row lines.hedge_line lines.hedge_behind c.args.hedges.now c.get-first.result.now c.get-first.ensures)

pub returns-clause-cause : goal.returns-clause-cause
returns-clause-cause c = tt
