use Rattle.std.proofs.Common.{◌≡◌, ◌∷◌, sym, ◌∙◌}
use Rattle.tc_path.proofs.TokenLaws.{cut_after_single}
use Rattle.tc_path.proofs.token.single_at.Goals as goal

pub range_from-requires : goal.range_from-requires
range_from-requires c =
    let is : c.args.text.now ≡ c.in_ok-first.first.now ∷ c.in_ok-first.field-0-1.now = sym c.as_bytes.ensures.value ∙ c.in_ok-first.ensures.cases.0 in
    λ _. cut_after_single c.args.text.now _ _ is c.utf8.text c.in-Some.ensures
