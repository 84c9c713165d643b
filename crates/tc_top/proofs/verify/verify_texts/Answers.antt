use Rattle.std.proofs.Common.{subst}
use Rattle.std.proofs.lemmas.Result.{IfOk-weaker}
use Rattle.tc_decide.specs.Verified.{TellsTextLimit}
use Rattle.tc_top.specs.Certifying.{Accepts, Verifies}
use Rattle.tc_top.specs.VerdictsSeen.{verification_answer}
use Rattle.tc_top.proofs.SchemaTextLaws.{short_text}
use Rattle.tc_top.proofs.Decided.{by_all, by_failure, of_verdict, accepted_by, limited_verification}
use Rattle.tc_top.proofs.verify.verify_texts.Goals as goal

pub verify-requires-clause-input : goal.verify-requires-clause-input
verify-requires-clause-input c = let o = c.args.operands.now in short_text o.input.name.now o.input.text.items _ c.schema_text-input.ensures c.requires.input

pub verify-requires-clause-output : goal.verify-requires-clause-output
verify-requires-clause-output c = let o = c.args.operands.now in short_text o.output.name.now o.output.text.items _ c.schema_text-output.ensures c.requires.output

pub returns-in-Ok : goal.returns-in-Ok
returns-in-Ok c =
    let o = c.args.operands.now in
    let e = c.in-Ok.ensures in
    let v = c.in-Ok.verification in
    let bytes = c.deref-2.result.now in
    let verifies =
    by_all o.input.name.now o.output.name.now o.sheet.name.now o.input.text.items o.output.text.items c.deref.result.now _ _ c.schema_text-input.ensures c.schema_text-output.ensures
    (λ i p s. Accepts i p s bytes) {answer = verification_answer v} e.refused (λ i p s x y z. accepted_by bytes i p s v (e.declared i p s x y z) (of_verdict v (e.verified i p s x y z))) in
    let there = subst (λ w. Verifies o.input.name.now o.output.name.now o.sheet.name.now o.input.text.items o.output.text.items w bytes (verification_answer v)) c.deref.ensures.value verifies in
    IfOk-weaker c.answer_verification.result _ _ (λ said says. (
      verification_answer v,
      says,
      subst (λ k. Verifies o.input.name.now o.output.name.now o.sheet.name.now o.input.text.items o.output.text.items o.sheet.text.items k (verification_answer v)) c.deref-2.ensures.value there,
    )) c.answer_verification.ensures

pub returns : goal.returns
returns c =
    let o = c.args.operands.now in
    let e = c.in-Err.ensures in
    let bytes = c.deref-2.result.now in
    IfOk-weaker c.answer_failure.result _ _ (λ said says.
    let told =
    by_failure o.input.name.now o.output.name.now o.sheet.name.now o.input.text.items o.output.text.items c.deref.result.now _ _ c.schema_text-input.ensures c.schema_text-output.ensures
    (λ i p s. Accepts i p s bytes) TellsTextLimit (limited_verification bytes) c.in-Err.failure said e.refused e.counted says in
    let there = subst (λ w. Verifies o.input.name.now o.output.name.now o.sheet.name.now o.input.text.items o.output.text.items w bytes told.0) c.deref.ensures.value told.2 in
    (told.0, told.1, subst (λ k. Verifies o.input.name.now o.output.name.now o.sheet.name.now o.input.text.items o.output.text.items o.sheet.text.items k told.0) c.deref-2.ensures.value there)) c.answer_failure.ensures
