use Rattle.std.proofs.Common.{◌≡◌, ◌∷◌, List, ℕ, arith, length, ap, sym, ◌∙◌, get_or}
use Rattle.tc_scan.proofs.FrontLaws.{cut_after_first}
use Rattle.tc_scan.proofs.front.after_byte.Goals as goal

pub range_from-requires : goal.range_from-requires
range_from-requires c =
    let given : c.as_bytes.result.now ≡ c.in_ok-first.first.now ∷ c.in_ok-first.field-0-1.now = c.in_ok-first.ensures.cases.0 in
    let is : c.args.text.now ≡ c.in_ok-first.first.now ∷ c.in_ok-first.field-0-1.now = sym c.as_bytes.ensures.value ∙ given in
    λ _. cut_after_first c.args.text.now c.utf8.text (omega (arith, ap length is)) (omega (arith, ap (λ (w : List ℕ). get_or w 0 0) is))
