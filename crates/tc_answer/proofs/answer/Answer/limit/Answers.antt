use Rattle.std.proofs.Common.{◌∙◌, ap}
use Rattle.std.proofs.lemmas.Result.{IfOk-weaker}
use Rattle.tc_answer.specs.Lines.{limit_line}
use Rattle.tc_answer.proofs.answer.Answer.limit.Goals as goal

pub returns : goal.returns
returns c =
    IfOk-weaker c.over.result _ _ (λ said h. record { status = h.0; written = h.1 ∙ ap (λ word. limit_line word c.args.number) c.word_of.ensures }) c.over.ensures
