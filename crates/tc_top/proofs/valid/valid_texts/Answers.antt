use Rattle.std.proofs.Common.{◌≤◌, sym, subst, List, ℕ, length}
use Rattle.std.proofs.lemmas.Result.{IfOk-weaker}
use Rattle.tc_top.specs.Causes.{Validates}
use Rattle.tc_top.specs.VerdictsSeen.{validity_answer}
use Rattle.tc_top.proofs.Decided.{of_verdict, valid_gives, valid_fails}
use Rattle.tc_top.proofs.SchemaTextLaws.{short_text}
use Rattle.tc_top.proofs.valid.valid_texts.Goals as goal

pub valid-requires-clause-schema : goal.valid-requires-clause-schema
valid-requires-clause-schema c = let o = c.args.schema.now in short_text o.name.now o.text.items _ c.schema_text.ensures c.requires.schema

pub returns-in-Ok : goal.returns-in-Ok
returns-in-Ok c =
    let one = c.args.schema.now in
    let other = c.args.document.now in
    let e = c.in-Ok.ensures in
    let v = c.in-Ok.is_valid in
    let valid = valid_gives one.name.now other.name.now one.text.items c.deref.result.now _ c.schema_text.ensures v e.refused (λ x d a b. of_verdict v (e.validity x d a b)) in
    (validity_answer v, c.answer_validity.ensures, subst (λ w. Validates one.name.now other.name.now one.text.items w (validity_answer v)) c.deref.ensures.value valid)

pub returns-in-Err : goal.returns-in-Err
returns-in-Err c =
    let one = c.args.schema.now in
    let other = c.args.document.now in
    let e = c.in-Err.ensures in
    IfOk-weaker c.answer_pair_failure.result _ _ (λ said says.
    let told = valid_fails one.name.now other.name.now one.text.items c.deref.result.now _ c.schema_text.ensures c.in-Err.failure said e.refused e.counted says in
    (told.0, told.1, subst (λ w. Validates one.name.now other.name.now one.text.items w told.0) c.deref.ensures.value told.2)) c.answer_pair_failure.ensures
