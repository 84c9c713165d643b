use Rattle.std.proofs.Common.{refl, sym}
use Rattle.std.proofs.lemmas.Result.{IfOk-weaker}
use Rattle.tc_answer.specs.Words.{verify}
use Rattle.tc_answer.proofs.OperandsRead.{three_named}
use Rattle.tc_top.specs.Answers.{verified, decided}
use Rattle.tc_top.specs.Certifying.{Verifies}
use Rattle.tc_top.proofs.certificates.verify.Goals as goal

pub returns-in-Ok-clause-ok : goal.returns-in-Ok-clause-ok
returns-in-Ok-clause-ok g c =
    let read = c.in-Ok.ensures in
    let o = c.in-Ok.operands in
    IfOk-weaker c.verify_texts.result _ _ (λ said h words are. (
      _,
      read.ok,
      (
        h.0,
        h.1,
        decided are (refl, (refl, (refl, (refl, refl))))
            (verified read.ok.true.1.1.1.0.short
            (three_named (λ x y z. Verifies x y z o.input.text.items o.output.text.items o.sheet.text.items c.in-Ok.certificate.text.items h.0) (sym read.input) (sym read.output) (sym read.sheet) h.2)),
      ),
    )) c.verify_texts.ensures

pub returns-in-Err-clause-ok : goal.returns-in-Err-clause-ok
returns-in-Err-clause-ok g c =
    let unread = c.in-Err.ensures.err in
    IfOk-weaker c.answer_unread.result _ _ (λ said right words are. (unread.0, unread.1, right words (verify c.args.triple.input.now c.args.triple.output.now c.args.triple.sheet.now c.args.certificate.now) unread.0 are unread.2)) c.answer_unread.ensures
