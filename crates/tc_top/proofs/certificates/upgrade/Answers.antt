use Rattle.std.proofs.Common.{refl, sym, ap, subst, [], ◌∷◌, Ok}
use Rattle.std.proofs.lemmas.Result.{IfOk-weaker}
use Rattle.tc_answer.specs.AnswersSeen.{source}
use Rattle.tc_answer.specs.Words.{plain}
use Rattle.tc_answer.proofs.OperandsRead.{first_as}
use Rattle.tc_top.specs.Answers.{upgraded, decided}
use Rattle.tc_top.proofs.certificates.upgrade.Goals as goal

pub returns-in-Ok-clause-ok : goal.returns-in-Ok-clause-ok
returns-in-Ok-clause-ok g c =
    let read = c.in-Ok.ensures in
    IfOk-weaker c.upgrade_text.result _ _ (λ said h words are. (_, read.ok, (h.0, h.1, decided are (ap (λ s. (s.file, Ok c.in-Ok.certificate.text.items)) c.plain.ensures, refl) (upgraded read.ok.true.0.short h.2)))) c.upgrade_text.ensures

pub returns-in-Err-clause-ok : goal.returns-in-Err-clause-ok
returns-in-Err-clause-ok g c =
    let unread = c.in-Err.ensures.err in
    IfOk-weaker c.answer_unread.result _ _ (λ said right words are. (_, unread.1, right words _ _ are (first_as [] unread.0 _ (source c.plain.result) (plain c.args.certificate.now) c.plain.ensures unread.2))) c.answer_unread.ensures
