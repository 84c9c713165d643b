use Rattle.std.proofs.lemmas.Result.{IfOk-weaker}
use Rattle.tc_decide.specs.declared.limits.TheConstants.{MOST_ROWS}
use Rattle.tc_top.proofs.Checked.{texts_at}
use Rattle.tc_top.proofs.demo.demo.Goals as goal

pub returns : goal.returns
returns c =
    IfOk-weaker c.check_texts.result _ _ (λ said h. (h.0, h.1, texts_at {most = MOST_ROWS} c.in_ok-input.ensures.text c.in_ok-output.ensures.text c.in_ok-sheet.ensures.items h.2)) c.check_texts.ensures
