use Rattle.std.proofs.Common.{◌∙◌}
use Rattle.std.proofs.lemmas.Result.{IfOk-weaker}
use Rattle.tc_model.specs.Views.{trees}
use Rattle.tc_answer.proofs.Lined.{large_lines}
use Rattle.tc_answer.proofs.answer.Answer.not_safe_large.Goals as goal

pub returns : goal.returns
returns c = IfOk-weaker c.showing.result _ _ (λ said h. record { status = h.0; written = h.1 ∙ large_lines (trees c.args.shown.now) }) c.showing.ensures
