use Rattle.std.proofs.Common.{subst}
use Rattle.std.proofs.lemmas.Result.{IfOk-weaker}
use Rattle.tc_decide.specs.Deciding.{TellsCounts}
use Rattle.tc_top.specs.Causes.{Finds, Checks}
use Rattle.tc_top.specs.VerdictsSeen.{verdict_answer}
use Rattle.tc_top.proofs.SchemaTextLaws.{short_text}
use Rattle.tc_top.proofs.Decided.{by_all, by_failure, of_verdict, found, limited}
use Rattle.tc_top.proofs.check.check_texts.Goals as goal

pub check-requires-clause-input : goal.check-requires-clause-input
check-requires-clause-input c = let o = c.args.operands.now in short_text o.input.name.now o.input.text.items _ c.schema_text-input.ensures c.requires.input

pub check-requires-clause-output : goal.check-requires-clause-output
check-requires-clause-output c = let o = c.args.operands.now in short_text o.output.name.now o.output.text.items _ c.schema_text-output.ensures c.requires.output

pub returns-in-Ok : goal.returns-in-Ok
returns-in-Ok c =
    let o = c.args.operands.now in
    let e = c.in-Ok.ensures in
    let v = c.in-Ok.verdict in
    let checks =
    by_all o.input.name.now o.output.name.now o.sheet.name.now o.input.text.items o.output.text.items c.deref.result.now _ _ c.schema_text-input.ensures c.schema_text-output.ensures
    (Finds c.args.most) {answer = verdict_answer v} e.refused (λ i p s x y z. let all = e.counted i p s x y z in found c.args.most i p s v (of_verdict v all.limits) all.numbers) in
    IfOk-weaker c.answer_verdict.result _ _ (λ said says. (
      verdict_answer v,
      says,
      subst (λ w. Checks c.args.most o.input.name.now o.output.name.now o.sheet.name.now o.input.text.items o.output.text.items w (verdict_answer v)) c.deref.ensures.value checks,
    )) c.answer_verdict.ensures

pub returns : goal.returns
returns c =
    let o = c.args.operands.now in
    let e = c.in-Err.ensures in
    IfOk-weaker c.answer_failure.result _ _ (λ said says.
    let told =
    by_failure o.input.name.now o.output.name.now o.sheet.name.now o.input.text.items o.output.text.items c.deref.result.now _ _ c.schema_text-input.ensures c.schema_text-output.ensures
    (Finds c.args.most) (TellsCounts c.args.most) (limited c.args.most) c.in-Err.failure said e.refused (λ i p s x y z. (e.counted i p s x y z).numbers) says in
    (told.0, told.1, subst (λ w. Checks c.args.most o.input.name.now o.output.name.now o.sheet.name.now o.input.text.items o.output.text.items w told.0) c.deref.ensures.value told.2)) c.answer_failure.ensures
