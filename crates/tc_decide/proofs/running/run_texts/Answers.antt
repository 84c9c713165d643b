use Rattle.tc_decide.specs.RunningSeen.{IsFoundOfRun}
use Rattle.tc_decide.proofs.Runs.{found_of_run, sheet_stops, document_stops}
use Rattle.tc_decide.proofs.TextsRead.{err_whole}
use Rattle.tc_decide.proofs.running.run_texts.Goals as goal
use Rattle.tc_model.specs.Trees.{none}
use Rattle.tc_model.specs.Views as see

pub returns-in_err-stylesheet : goal.returns-in_err-stylesheet
returns-in_err-stylesheet c =
    err_whole c.from_residual.result _ (IsFoundOfRun c.args.sheet.now c.args.document.now) c.from_residual.ensures.1
    (sheet_stops c.args.sheet.now c.args.document.now _ c.in_err-stylesheet.ensures.no)

pub returns-in_err-root : goal.returns-in_err-root
returns-in_err-root c =
    err_whole c.from_residual-in_err-root.result _ (IsFoundOfRun c.args.sheet.now c.args.document.now) c.from_residual-in_err-root.ensures.1
    (document_stops c.args.sheet.now c.args.document.now (see.sheet c.in_ok-stylesheet.stylesheet) c.in_ok-stylesheet.ensures.ok _ c.in_err-root.ensures.no)

pub returns : goal.returns
returns c =
    found_of_run c.args.sheet.now c.args.document.now (see.sheet c.in_ok-stylesheet.stylesheet) (see.before c.in_ok-root.root none) c.run_on.result c.in_ok-stylesheet.ensures.ok c.in_ok-root.ensures.ok c.run_on.ensures
