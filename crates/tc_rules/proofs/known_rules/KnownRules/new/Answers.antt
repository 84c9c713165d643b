use Rattle.std.proofs.Common.{◌≡◌, ℕ, List, Option, None, Some, Result, Ok, Err, replicate, All, IfOk, IfSome, refl, sym, subst, rules}
use Rattle.std.specs.Result.{IsErrAnd}
use Rattle.std.proofs.lemmas.List.Elements.{All-replicate}
use Rattle.tc_model.specs.Symbols.{Mention}
use Rattle.tc_rules.specs.KnownRules.{AreKnown, IsKnown}
use Rattle.tc_rules.specs.RulesView.{RulesView}
use Rattle.tc_rules.specs.declared.known_rules.Known.{Known}
use Rattle.tc_rules.specs.declared.known_rules.KnownRules.{KnownRules}
use Rattle.tc_rules.proofs.known_rules.KnownRules.new.Goals as goal

-- what can't be remembered is nothing
nothing_else : (IsOne : Option Known → Type 0) → ((k : Known) → IsOne (Some k) → ⊥) → (o : Option Known) → IsOne o → o ≡ None
nothing_else IsOne none None is = refl
nothing_else IsOne none (Some k) is = absurd (none k is)

none_known : (n : ℕ) (r : KnownRules) → r.places.items ≡ replicate n None → (symbols : List Mention) (v : RulesView) → AreKnown symbols v r
none_known n r same symbols v =
    record { found = subst (All (λ (o : Option Known). IfSome o (IsKnown symbols v))) (sym same) (All-replicate (λ (o : Option Known). IfSome o (IsKnown symbols v)) n None (search rules)) }

pub returns : goal.returns
returns c = none_known 4096 _ (c.in_ok-places.ensures.items_if_clones_equal (nothing_else _ (λ k e. e)))

-- what fails has no value
failed : {T E : Type 0} (r : Result T E) (P : T → Type 0) (Q : E → Type 0) → IsErrAnd r Q → IfOk r P
failed (Ok v) P Q h = absurd h
failed (Err e) P Q h = tt

pub returns-in_err-places : goal.returns-in_err-places
returns-in_err-places c = failed c.from_residual.result _ _ c.from_residual.ensures.1
