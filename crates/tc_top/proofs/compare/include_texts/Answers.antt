use Rattle.std.proofs.lemmas.Result.{IfOk-weaker}
use Rattle.tc_decide.specs.Comparing.{inclusion}
use Rattle.tc_decide.specs.declared.verdict.Inclusion.{Inclusion}
use Rattle.tc_top.specs.VerdictsSeen.{inclusion_answer}
use Rattle.tc_top.proofs.Decided.{of_verdict, included_by, pair_by, pair_fails}
use Rattle.tc_top.proofs.SchemaTextLaws.{short_text}
use Rattle.tc_top.proofs.compare.include_texts.Goals as goal

pub include-requires-clause-first : goal.include-requires-clause-first
include-requires-clause-first c = let o = c.args.first.now in short_text o.name.now o.text.items _ c.schema_text-one.ensures c.requires.first

pub include-requires-clause-second : goal.include-requires-clause-second
include-requires-clause-second c = let o = c.args.second.now in short_text o.name.now o.text.items _ c.schema_text-other.ensures c.requires.second

pub returns-in-Ok : goal.returns-in-Ok
returns-in-Ok c =
    let one = c.args.first.now in
    let other = c.args.second.now in
    let e = c.in-Ok.ensures in
    let v = c.in-Ok.inclusion in
    IfOk-weaker c.answer_inclusion.result _ _ (λ said says. (
      inclusion_answer v,
      says,
      pair_by one.name.now other.name.now one.text.items other.text.items _ _ c.schema_text-one.ensures c.schema_text-other.ensures {question = inclusion} e.refused
          (λ x y p q. included_by x y v (of_verdict v (e.inclusion x y p q)) (e.counted x y p q)),
    )) c.answer_inclusion.ensures

pub returns : goal.returns
returns c =
    let one = c.args.first.now in
    let other = c.args.second.now in
    let e = c.in-Err.ensures in
    IfOk-weaker c.answer_pair_failure.result _ _ (λ said says.
    pair_fails one.name.now other.name.now one.text.items other.text.items _ _ c.schema_text-one.ensures c.schema_text-other.ensures inclusion Inclusion c.in-Err.failure said e.refused e.counted says) c.answer_pair_failure.ensures
