use Rattle.std.proofs.Common.{◌∙◌}
use Rattle.std.proofs.lemmas.Result.{IfOk-weaker}
use Rattle.tc_answer.proofs.Lined.{included_pieces}
use Rattle.tc_answer.proofs.answer.Answer.included.Goals as goal

pub returns : goal.returns
returns c =
    IfOk-weaker c.answer_of.result _ _ (λ said h. record {
      status = h.0;
      written = h.1 ∙ included_pieces c.format.result.now c.format-2.result.now c.args.trees c.args.hedges c.format.ensures.text c.format-2.ensures.text;
    }) c.answer_of.ensures
