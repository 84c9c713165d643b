use Rattle.std.proofs.Common.{◌++◌, ◌∙◌, sym, ap, codes}
use Rattle.std.proofs.lemmas.Result.{on_ok_weaker}
use Rattle.tc_answer.specs.SpotLines.{use_text}
use Rattle.tc_answer.specs.SpotsSeen.{use_of}
use Rattle.tc_answer.proofs.spots.put_use.Goals as goal
use Rattle.tc_decide.specs.declared.spots.Told.{Told}

pub returns-in-Used : goal.returns-in-Used
returns-in-Used c =
    on_ok_weaker c.put_shown.result (λ put. put ∙ ap (λ (t : Told). c.args.text.now.bytes.items ++ (use_text (use_of t) ++ codes "\n")) (sym c.in-Used.is)) c.put_shown.ensures
