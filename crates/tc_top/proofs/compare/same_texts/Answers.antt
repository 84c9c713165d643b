use Rattle.std.proofs.lemmas.Result.{IfOk-weaker}
use Rattle.tc_decide.specs.Comparing.{equality}
use Rattle.tc_decide.specs.declared.verdict.Equality.{Equality}
use Rattle.tc_top.specs.VerdictsSeen.{equality_answer}
use Rattle.tc_top.proofs.Decided.{of_verdict, equal_by, pair_by, pair_fails}
use Rattle.tc_top.proofs.SchemaTextLaws.{short_text}
use Rattle.tc_top.proofs.compare.same_texts.Goals as goal

pub same-requires-clause-first : goal.same-requires-clause-first
same-requires-clause-first c = let o = c.args.first.now in short_text o.name.now o.text.items _ c.schema_text-one.ensures c.requires.first

pub same-requires-clause-second : goal.same-requires-clause-second
same-requires-clause-second c = let o = c.args.second.now in short_text o.name.now o.text.items _ c.schema_text-other.ensures c.requires.second

pub returns-in-Ok : goal.returns-in-Ok
returns-in-Ok c =
    let one = c.args.first.now in
    let other = c.args.second.now in
    let e = c.in-Ok.ensures in
    let v = c.in-Ok.equality in
    IfOk-weaker c.answer_equality.result _ _ (λ said says. (
      equality_answer v,
      says,
      pair_by one.name.now other.name.now one.text.items other.text.items _ _ c.schema_text-one.ensures c.schema_text-other.ensures {question = equality} e.refused
          (λ x y p q. equal_by x y v (of_verdict v (e.equality x y p q)) (e.shown x y p q)),
    )) c.answer_equality.ensures

pub returns : goal.returns
returns c =
    let one = c.args.first.now in
    let other = c.args.second.now in
    let e = c.in-Err.ensures in
    IfOk-weaker c.answer_pair_failure.result _ _ (λ said says.
    pair_fails one.name.now other.name.now one.text.items other.text.items _ _ c.schema_text-one.ensures c.schema_text-other.ensures equality Equality c.in-Err.failure said e.refused e.counted says) c.answer_pair_failure.ensures
