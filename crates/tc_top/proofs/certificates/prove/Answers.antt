use Rattle.std.proofs.Common.{refl, sym}
use Rattle.std.proofs.lemmas.Result.{IfOk-weaker}
use Rattle.tc_answer.proofs.OperandsRead.{three_named}
use Rattle.tc_top.specs.Answers.{proved, decided}
use Rattle.tc_top.specs.Certifying.{Proves}
use Rattle.tc_top.specs.Checking.{most_rows}
use Rattle.tc_top.proofs.CertifyingCalls.{proves_at}
use Rattle.tc_top.proofs.certificates.prove.Goals as goal

pub returns-in-Ok-clause-ok : goal.returns-in-Ok-clause-ok
returns-in-Ok-clause-ok g c =
    let read = c.in-Ok.ensures in
    let o = c.in-Ok.operands in
    IfOk-weaker c.prove_texts.result _ _ (λ said h words are. (
      _,
      read.ok,
      (
        h.0,
        h.1,
        decided are (refl, (refl, (refl, refl)))
            (proved
            (three_named (λ x y z. Proves (most_rows c.args.limit) x y z o.input.text.items o.output.text.items o.sheet.text.items h.0) (sym read.input) (sym read.output) (sym read.sheet)
            (proves_at c.row_limit.result (most_rows c.args.limit) o.input.name.now o.output.name.now o.sheet.name.now o.input.text.items o.output.text.items o.sheet.text.items h.0 c.row_limit.ensures h.2))),
      ),
    )) c.prove_texts.ensures

pub returns-in-Err-clause-ok : goal.returns-in-Err-clause-ok
returns-in-Err-clause-ok g c =
    let unread = c.in-Err.ensures.err in
    IfOk-weaker c.answer_unread.result _ _ (λ said right words are. (unread.0, unread.1, right words _ unread.0 are unread.2)) c.answer_unread.ensures
