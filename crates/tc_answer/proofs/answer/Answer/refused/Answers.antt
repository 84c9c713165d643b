use Rattle.std.proofs.Common.{◌∙◌}
use Rattle.std.proofs.lemmas.Result.{IfOk-weaker}
use Rattle.tc_answer.proofs.Lined.{refused_line}
use Rattle.tc_answer.proofs.answer.Answer.refused.Goals as goal

pub returns : goal.returns
returns c = IfOk-weaker c.refused_by.result _ _ (λ said h. record { status = h.0; written = h.1 ∙ refused_line c.args.name.now _ _ _ c.words.ensures }) c.refused_by.ensures
