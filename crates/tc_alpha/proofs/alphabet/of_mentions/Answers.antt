use Rattle.std.proofs.Common.{◌≡◌, ap, sym, ◌∙◌, subst, length, List, [], ◌∷◌, refl, arith}
use Rattle.tc_alpha.specs.Views.{seen}
use Rattle.tc_model.specs.Symbols.{AreSymbols}
use Rattle.tc_alpha.specs.declared.mentions.Mention.{Mention}
use Rattle.tc_alpha.proofs.alphabet.of_mentions.Goals as goal

length_seen : (xs : List Mention) → length (seen xs) ≡ length xs
length_seen [] = refl
length_seen (x ∷ xs) = let rest = length_seen xs in omega arith

pub invariant_of-result : goal.invariant_of-result
invariant_of-result c =
    let kept = c.in_ok-symbols.ensures in
    let long = ap length kept ∙ length_seen c.args.mentions.now in
    (subst AreSymbols (sym kept) c.requires, omega arith)

pub returns-clause-few : goal.returns-clause-few
returns-clause-few c = omega (arith, length_seen c.args.mentions.now)
