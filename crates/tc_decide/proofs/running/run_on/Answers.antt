use Rattle.std.proofs.Common.{subst}
use Rattle.tc_decide.specs.RunningSeen.{IsRun}
use Rattle.tc_decide.proofs.Runs.{stopped_by, broken_by}
use Rattle.tc_decide.proofs.TextsRead.{err_whole}
use Rattle.tc_decide.proofs.running.run_on.Goals as goal
use Rattle.tc_model.specs.Sheets.{Sheet}
use Rattle.tc_model.specs.Trees.{none}
use Rattle.tc_model.specs.Views as see
use Rattle.tc_run.specs.Limits.{KeepsLimits, IsCause, IsTextOfResult}

pub returns-in_err-parts : goal.returns-in_err-parts
returns-in_err-parts c =
    let s = see.sheet c.args.sheet.now in
    let d = see.before c.args.document.now none in
    err_whole c.from_residual.result _ (IsRun s d) c.from_residual.ensures.1 (stopped_by s d c.in_err-parts.field-0.0 c.in_err-parts.ensures.err)

pub returns-in_err-text : goal.returns-in_err-text
returns-in_err-text c =
    let s = see.sheet c.args.sheet.now in
    let d = see.before c.args.document.now none in
    let parts = c.in_ok-parts.ensures.parts in
    let cause = subst (λ (w : Sheet). IsCause w d c.in_err-text.field-0.0) parts.sheet c.in_err-text.ensures.cause in
    err_whole c.from_residual-in_err-text.result _ (IsRun s d) c.from_residual-in_err-text.ensures.1 (broken_by s d parts.within c.in_err-text.field-0.0 cause)

pub returns : goal.returns
returns c =
    let s = see.sheet c.args.sheet.now in
    let d = see.before c.args.document.now none in
    let parts = c.in_ok-parts.ensures.parts in (
      record { sheet = parts.within; keeps = subst (λ (w : Sheet). KeepsLimits w d) parts.sheet c.in_ok-text.ensures.within },
      subst (λ (w : Sheet). IsTextOfResult w d c.in_ok-text.text.items) parts.sheet c.in_ok-text.ensures.result,
    )
