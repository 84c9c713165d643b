use Rattle.std.proofs.Common.{◌∙◌, refl, sym, ap, Ok}
use Rattle.std.proofs.lemmas.Result.{IfOk-weaker}
use Rattle.tc_answer.proofs.OperandsRead.{named, pair_unread}
use Rattle.tc_top.specs.Answers.{decided, ran}
use Rattle.tc_top.specs.Causes.{RunsTexts}
use Rattle.tc_top.proofs.run.run.Goals as goal

pub returns-in-Ok-clause-ok : goal.returns-in-Ok-clause-ok
returns-in-Ok-clause-ok g c =
    let read = c.in-Ok.ensures in
    let one = read.first ∙ ap (λ s. s.word) c.plain.ensures in
    let other = read.second ∙ ap (λ s. s.word) c.plain-2.ensures in
    IfOk-weaker c.run_texts.result _ _ (λ said h words are. (
      _,
      read.ok,
      (
        h.0,
        h.1,
        decided are (ap (λ s. (s.file, Ok c.in-Ok.sheet.text.items)) c.plain.ensures, (ap (λ s. (s.file, Ok c.in-Ok.document.text.items)) c.plain-2.ensures, refl))
            (ran (named (λ x y. RunsTexts x y c.in-Ok.sheet.text.items c.in-Ok.document.text.items h.0) (sym one) (sym other) h.2)),
      ),
    )) c.run_texts.ensures

pub returns-in-Err-clause-ok : goal.returns-in-Err-clause-ok
returns-in-Err-clause-ok g c =
    let unread = c.in-Err.ensures.err in
    IfOk-weaker c.answer_unread.result _ _ (λ said right words are. (unread.0, unread.1, right words _ unread.0 are (pair_unread _ _ c.plain.ensures c.plain-2.ensures unread.2))) c.answer_unread.ensures
