use Rattle.std.proofs.Common.{◌∙◌, ℕ, ap, subst}
use Rattle.std.specs.Global.{Vec}
use Rattle.std.proofs.lemmas.Result.{IfOk-weaker}
use Rattle.tc_answer.specs.Answers.{has_result}
use Rattle.tc_answer.specs.Lines.{line}
use Rattle.tc_top.specs.Causes.{RunsTexts}
use Rattle.tc_top.proofs.Decided.{of_verdict, run_gives, run_fails}
use Rattle.tc_top.proofs.run.run_texts.Goals as goal

pub returns-in-Ok : goal.returns-in-Ok
returns-in-Ok c =
    let sheet = c.args.sheet.now in
    let document = c.args.document.now in
    let e = c.in-Ok.ensures in
    let text = c.in-Ok.text in
    let (result, shown, runs) = run_gives sheet.name.now document.name.now c.deref.result.now c.deref-2.result.now text.items e.refused (λ s d x y. ((of_verdict text (e.limited s d x y)).yes.0 tt, e.running s d x y)) in
    let answer = has_result result in
    let there = subst (λ w. RunsTexts sheet.name.now document.name.now w c.deref-2.result.now answer) c.deref.ensures.value runs in
    IfOk-weaker c.written.result _ _ (λ said h. (answer, record { status = h.0; written = h.1 ∙ ap line shown }, subst (λ w. RunsTexts sheet.name.now document.name.now sheet.text.items w answer) c.deref-2.ensures.value there)) c.written.ensures

pub returns-in-Err : goal.returns-in-Err
returns-in-Err c =
    let sheet = c.args.sheet.now in
    let document = c.args.document.now in
    let e = c.in-Err.ensures in
    IfOk-weaker c.answer_pair_failure.result _ _ (λ said says.
    let told = run_fails sheet.name.now document.name.now c.deref.result.now c.deref-2.result.now (Vec ℕ) c.in-Err.failure said e.refused e.counted says in
    let there = subst (λ w. RunsTexts sheet.name.now document.name.now w c.deref-2.result.now told.0) c.deref.ensures.value told.2 in
    (told.0, told.1, subst (λ w. RunsTexts sheet.name.now document.name.now sheet.text.items w told.0) c.deref-2.ensures.value there)) c.answer_pair_failure.ensures
