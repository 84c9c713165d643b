use Rattle.std.proofs.Common.{◌∙◌, ◌∷◌, [], refl, sym, ap, Ok}
use Rattle.std.proofs.lemmas.Result.{IfOk-weaker}
use Rattle.tc_answer.proofs.OperandsRead.{named, pair_unread}
use Rattle.tc_top.specs.Answers.{told_dead, decided}
use Rattle.tc_top.specs.DeadSpots.{TellsDead}
use Rattle.tc_top.proofs.spots.dead.Goals as goal

pub returns-in-Ok-clause-ok : goal.returns-in-Ok-clause-ok
returns-in-Ok-clause-ok g c =
    let read = c.in-Ok.ensures in
    let one = read.first ∙ ap (λ s. s.word) c.schema.ensures in
    let other = read.second ∙ ap (λ s. s.word) c.plain.ensures in
    IfOk-weaker c.dead_texts.result _ _ (λ said h words are. (
      _,
      read.ok,
      (
        h.0,
        h.1,
        decided {texts = c.in-Ok.input.text.items ∷ c.in-Ok.sheet.text.items ∷ []} are
            (ap (λ s. (s.file, Ok c.in-Ok.input.text.items)) c.schema.ensures, (ap (λ s. (s.file, Ok c.in-Ok.sheet.text.items)) c.plain.ensures, refl))
            (told_dead (named (λ x y. TellsDead x y c.in-Ok.input.text.items c.in-Ok.sheet.text.items h.0) (sym one) (sym other) h.2)),
      ),
    )) c.dead_texts.ensures

pub returns-in-Err-clause-ok : goal.returns-in-Err-clause-ok
returns-in-Err-clause-ok g c =
    let unread = c.in-Err.ensures.err in
    IfOk-weaker c.answer_unread.result _ _ (λ said right words are. (unread.0, unread.1, right words _ unread.0 are (pair_unread _ _ c.schema.ensures c.plain.ensures unread.2))) c.answer_unread.ensures
