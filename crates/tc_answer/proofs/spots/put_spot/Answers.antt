use Rattle.std.proofs.Common.{◌++◌, ◌∙◌, ap, codes, List, ℕ}
use Rattle.std.proofs.lemmas.Result.{on_ok_weaker}
use Rattle.tc_answer.specs.SpotLines.{spot_text, use_text}
use Rattle.tc_answer.specs.SpotsSeen.{use_of}
use Rattle.tc_answer.proofs.SpotLines.{one_line}
use Rattle.tc_answer.proofs.spots.put_spot.Goals as goal
use Rattle.tc_dead.specs.Views.{seen}

pub returns : goal.returns
returns c =
    let told = use_text (use_of c.args.spot.now.told) in
    on_ok_weaker c.put_use.result (λ put. put
    ∙ (ap (λ (w : List ℕ). w ++ (told ++ codes "\n")) c.in_ok-put_name.ensures ∙ one_line c.args.text.now.bytes.items (spot_text (seen c.args.spot.now.spot)) told)) c.put_use.ensures
