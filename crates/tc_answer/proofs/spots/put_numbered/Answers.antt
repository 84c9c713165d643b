use Rattle.std.proofs.Common.{◌++◌, ◌∙◌, ap, List, ℕ}
use Rattle.std.proofs.lemmas.Result.{on_ok_weaker}
use Rattle.tc_answer.proofs.SpotLines.{numbered}
use Rattle.tc_answer.proofs.spots.put_numbered.Goals as goal

pub returns : goal.returns
returns c =
    let digits = c.as_bytes.result.now in
    on_ok_weaker c.put-2.result (λ put. put
    ∙ (ap (λ (w : List ℕ). w ++ digits) c.in_ok-put.ensures ∙ numbered c.args.text.now.bytes.items c.args.front.now digits c.args.number (c.as_bytes.ensures.value ∙ c.format.ensures.text))) c.put-2.ensures
