use Rattle.std.proofs.Common.{◌≡◌, ℕ, List, Option, None, Some, Result, Ok, Err, replicate, All, IfOk, IfSome, refl, sym, subst, rules}
use Rattle.std.specs.Result.{IsErrAnd}
use Rattle.std.proofs.lemmas.List.Elements.{All-replicate}
use Rattle.tc_model.specs.Trees.{Trees}
use Rattle.tc_run.specs.Findings.{AreFoundUnder}
use Rattle.tc_run.specs.Running.{Guide}
use Rattle.tc_run.specs.Sights.{AreSeenUnder, IsSeen}
use Rattle.tc_run.specs.declared.sights.Seen.{Seen}
use Rattle.tc_run.specs.declared.sights.KnownSights.{KnownSights}
use Rattle.tc_run.proofs.sights.KnownSights.new.Goals as goal

-- what can't be remembered is nothing
nothing_else : (IsOne : Option Seen → Type 0) → ((k : Seen) → IsOne (Some k) → ⊥) → (o : Option Seen) → IsOne o → o ≡ None
nothing_else IsOne none None is = refl
nothing_else IsOne none (Some k) is = absurd (none k is)

none_known : (n : ℕ) (k : KnownSights) → k.places.items ≡ replicate n None → ((g : Guide) (numbered : List Trees) → AreFoundUnder g numbered k.findings) → (g : Guide) (numbered : List Trees) → AreSeenUnder g numbered k
none_known n k same found g numbered = record {
  seen = subst (All (λ (o : Option Seen). IfSome o (IsSeen g))) (sym same) (All-replicate (λ (o : Option Seen). IfSome o (IsSeen g)) n None (search rules));
  findings = found g numbered;
}

pub returns : goal.returns
returns c = none_known 1024 _ (c.in_ok-places.ensures.items_if_clones_equal (nothing_else _ (λ k e. e))) c.new-findings.ensures

-- what fails has no value
failed : {T E : Type 0} (r : Result T E) (P : T → Type 0) (Q : E → Type 0) → IsErrAnd r Q → IfOk r P
failed (Ok v) P Q h = absurd h
failed (Err e) P Q h = tt

pub returns-in_err-places : goal.returns-in_err-places
returns-in_err-places c = failed c.from_residual.result _ _ c.from_residual.ensures.1
