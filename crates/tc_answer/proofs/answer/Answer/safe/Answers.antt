use Rattle.std.proofs.Common.{◌∙◌}
use Rattle.std.proofs.lemmas.Result.{IfOk-weaker}
use Rattle.tc_answer.proofs.Lined.{safe_pieces}
use Rattle.tc_answer.proofs.answer.Answer.safe.Goals as goal

pub returns : goal.returns
returns c =
    IfOk-weaker c.answer_of.result _ _ (λ said h. record {
      status = h.0;
      written = h.1
          ∙ safe_pieces c.format.result.now c.format-2.result.now c.format-3.result.now c.args.trees c.args.hedges c.args.outputs c.format.ensures.text c.format-2.ensures.text c.format-3.ensures.text;
    }) c.answer_of.ensures
