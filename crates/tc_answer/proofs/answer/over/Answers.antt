use Rattle.std.proofs.Common.{◌∙◌}
use Rattle.std.proofs.lemmas.Result.{IfOk-weaker}
use Rattle.tc_answer.proofs.Lined.{limit_pieces}
use Rattle.tc_answer.proofs.answer.over.Goals as goal

pub returns : goal.returns
returns c = IfOk-weaker c.answer_of.result _ _ (λ said h. (h.0, h.1 ∙ limit_pieces c.args.word.now c.format.result.now c.args.number c.format.ensures.text)) c.answer_of.ensures
