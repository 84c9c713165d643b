use Rattle.std.proofs.Common.{subst, refl, Err}
use Rattle.std.proofs.lemmas.Result.{IfOk-weaker}
use Rattle.tc_answer.specs.Answers.{spots}
use Rattle.tc_answer.specs.SpotsSeen.{spot_uses}
use Rattle.tc_top.specs.DeadSpots.{TellsDead}
use Rattle.tc_top.proofs.SchemaTextLaws.{short_text}
use Rattle.tc_top.proofs.SpotsFound.{spots_tell, failure_tells}
use Rattle.tc_top.proofs.spots.dead_texts.Goals as goal

pub dead-requires-clause-input : goal.dead-requires-clause-input
dead-requires-clause-input c = short_text c.args.input.now.name.now c.args.input.now.text.items _ c.schema_text-schema.ensures c.requires.input

pub returns-in-Ok : goal.returns-in-Ok
returns-in-Ok c =
    let i = c.args.input.now in
    let s = c.args.sheet.now in
    let e = c.in-Ok.ensures in
    let tells = spots_tell i.name.now s.name.now i.text.items c.deref.result.now _ c.schema_text-schema.ensures c.in-Ok.told e.refused e.spots_told in
    IfOk-weaker c.spots.result _ _ (λ said says. (
      spots (spot_uses c.in-Ok.told.now),
      says,
      subst (λ w. TellsDead i.name.now s.name.now i.text.items w (spots (spot_uses c.in-Ok.told.now))) c.deref.ensures.value tells,
    )) c.spots.ensures

pub returns : goal.returns
returns c =
    let i = c.args.input.now in
    let s = c.args.sheet.now in
    let e = c.in-Err.ensures in
    IfOk-weaker c.answer_untold.result _ _ (λ said says.
    let found = failure_tells i.name.now s.name.now i.text.items c.deref.result.now _ c.schema_text-schema.ensures c.in-Err.failure said (Err c.in-Err.failure) refl e.refused e.spots_told says in
    (found.0, found.1, subst (λ w. TellsDead i.name.now s.name.now i.text.items w found.0) c.deref.ensures.value found.2)) c.answer_untold.ensures
