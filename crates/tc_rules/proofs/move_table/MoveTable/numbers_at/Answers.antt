use Rattle.std.proofs.Common.{◌≡◌, ◌<◌, ◌∙◌, ℕ, List, [], ap, get_or, length, map, sym}
use Rattle.std.proofs.lemmas.List.{get_or-map}
use Rattle.std.specs.Global.{Vec}
use Rattle.tc_rules.proofs.move_table.MoveTable.numbers_at.Goals as goal

item_at : (all xs : List (Vec ℕ)) (i : ℕ) (w : Vec ℕ) → xs ≡ all → i < length xs → get_or xs i w ≡ w → w.items ≡ get_or (map (λ (v : Vec ℕ). v.items) all) i []
item_at all xs i w same h is =
    ap (λ (v : Vec ℕ). v.items) (sym is)
    ∙ (sym (get_or-map (λ (v : Vec ℕ). v.items) xs i w [] h) ∙ ap (λ (l : List (Vec ℕ)). get_or (map (λ (v : Vec ℕ). v.items) l) i []) same)

pub returns-in-Some : goal.returns-in-Some
returns-in-Some c =
    let at = c.in-Some.ensures.lookup in
    c.deref-in-Some.ensures.value ∙ item_at _ c.deref.result.now c.args.place c.in-Some.numbers.now c.deref.ensures.value at.3.0 (sym at.1)
