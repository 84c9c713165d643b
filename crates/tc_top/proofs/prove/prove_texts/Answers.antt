use Rattle.std.proofs.Common.{subst}
use Rattle.std.proofs.lemmas.Result.{IfOk-weaker}
use Rattle.tc_decide.specs.Certificates.{TellsLimit}
use Rattle.tc_decide.specs.declared.verdict.Proof.{Proof}
use Rattle.tc_top.specs.Certifying.{Certifies, Proves}
use Rattle.tc_top.specs.VerdictsSeen.{proof_answer}
use Rattle.tc_top.proofs.SchemaTextLaws.{short_text}
use Rattle.tc_top.proofs.Decided.{by_all, by_failure, of_verdict, proved, limited_proof}
use Rattle.tc_top.proofs.prove.prove_texts.Goals as goal

pub prove-requires-clause-input : goal.prove-requires-clause-input
prove-requires-clause-input c = let o = c.args.operands.now in short_text o.input.name.now o.input.text.items _ c.schema_text-input.ensures c.requires.input

pub prove-requires-clause-output : goal.prove-requires-clause-output
prove-requires-clause-output c = let o = c.args.operands.now in short_text o.output.name.now o.output.text.items _ c.schema_text-output.ensures c.requires.output

pub returns-in-Ok : goal.returns-in-Ok
returns-in-Ok c =
    let o = c.args.operands.now in
    let e = c.in-Ok.ensures in
    let v = c.in-Ok.proof in
    let proves =
    by_all o.input.name.now o.output.name.now o.sheet.name.now o.input.text.items o.output.text.items c.deref.result.now _ _ c.schema_text-input.ensures c.schema_text-output.ensures
    (λ i p s. Certifies i p s c.args.most) {answer = proof_answer v} e.refused (λ i p s x y z. proved c.args.most i p s v (of_verdict v (e.counted i p s x y z).limits)) in
    IfOk-weaker c.answer_proof.result _ _ (λ said says. (
      proof_answer v,
      says,
      subst (λ w. Proves c.args.most o.input.name.now o.output.name.now o.sheet.name.now o.input.text.items o.output.text.items w (proof_answer v)) c.deref.ensures.value proves,
    )) c.answer_proof.ensures

pub returns : goal.returns
returns c =
    let o = c.args.operands.now in
    let e = c.in-Err.ensures in
    IfOk-weaker c.answer_failure.result _ _ (λ said says.
    let told =
    by_failure o.input.name.now o.output.name.now o.sheet.name.now o.input.text.items o.output.text.items c.deref.result.now _ _ c.schema_text-input.ensures c.schema_text-output.ensures
    (λ i p s. Certifies i p s c.args.most) {V = Proof} (λ i p s. TellsLimit i p s c.args.most) (limited_proof c.args.most) c.in-Err.failure said e.refused (λ i p s x y z. (e.counted i p s x y z).number) says in
    (told.0, told.1, subst (λ w. Proves c.args.most o.input.name.now o.output.name.now o.sheet.name.now o.input.text.items o.output.text.items w told.0) c.deref.ensures.value told.2)) c.answer_failure.ensures
