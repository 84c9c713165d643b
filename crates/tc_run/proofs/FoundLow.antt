-- The number of a rule that was found is below the count of rules.
use Rattle.std.proofs.Common.{◌≡◌, ℕ, zero, suc, ◌<◌, List, [], ◌∷◌, length, Bool, Option, None, Some, slice_get, arith}
use Rattle.std.specs.Prelude.{IfSome}
use Rattle.tc_model.specs.RuleStates.{IsRuleOf, built_in, best}
use Rattle.tc_model.specs.Sheets.{Rule}

got_low : {X : Type 0} (xs : List X) (i : ℕ) (x : X) → slice_get xs i ≡ Some x → i < length xs
got_low [] i x e = absurd (cc)
got_low (y ∷ xs) zero x e = omega arith
got_low (y ∷ xs) (suc i) x e = let l = got_low xs i x e in omega (arith, l)

pub rule_low : (rs : List Rule) (m : ℕ) (f : ℕ → Rule → Bool) (o : Option ℕ) → IsRuleOf rs m f o → IfSome o (λ i. i < length rs)
rule_low rs m f None (built_in h) = tt
rule_low rs m f (Some i) (best h g) = got_low rs i _ h.at
