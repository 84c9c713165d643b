use Rattle.std.proofs.Common.{◌++◌, ◌∙◌, ap, codes, List, ℕ}
use Rattle.std.proofs.lemmas.Result.{on_ok_weaker}
use Rattle.tc_answer.proofs.SpotLines.{places_pieces}
use Rattle.tc_answer.proofs.spots.put_places.Goals as goal

pub returns : goal.returns
returns c =
    let places = c.as_bytes.result.now in
    let dead = c.as_bytes-2.result.now in
    let two = c.in_ok-put-2.ensures ∙ ap (λ (w : List ℕ). w ++ places) c.in_ok-put.ensures in
    let four = c.in_ok-put-4.ensures ∙ ap (λ (w : List ℕ). w ++ dead) (c.in_ok-put-3.ensures ∙ ap (λ (w : List ℕ). w ++ codes " dead ") two) in
    on_ok_weaker c.put-5.result (λ put. put
    ∙ (ap (λ (w : List ℕ). w ++ codes "\n") four
    ∙ places_pieces c.args.text.now.bytes.items places dead c.args.places c.args.dead (c.as_bytes.ensures.value ∙ c.format.ensures.text) (c.as_bytes-2.ensures.value ∙ c.format-2.ensures.text))) c.put-5.ensures
