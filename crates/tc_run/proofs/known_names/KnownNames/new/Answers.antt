use Rattle.std.proofs.Common.{◌≡◌, ◌∙◌, ℕ, List, length, Option, None, Some, Result, Ok, Err, replicate, All, IfOk, IfSome, ap, refl, sym, subst, rules}
use Rattle.std.specs.Result.{IsErrAnd}
use Rattle.std.proofs.lemmas.List.{length-replicate}
use Rattle.std.proofs.lemmas.List.Elements.{All-replicate}
use Rattle.tc_model.specs.Symbols.{Mention}
use Rattle.tc_run.specs.Named.{AreNamed, IsNamed}
use Rattle.tc_run.specs.declared.known_names.Named.{Named}
use Rattle.tc_run.specs.declared.known_names.KnownNames.{KnownNames}
use Rattle.tc_run.proofs.known_names.KnownNames.new.Goals as goal

-- what can't be remembered is nothing
nothing_else : (IsOne : Option Named → Type 0) → ((k : Named) → IsOne (Some k) → ⊥) → (o : Option Named) → IsOne o → o ≡ None
nothing_else IsOne none None is = refl
nothing_else IsOne none (Some k) is = absurd (none k is)

none_named : (n : ℕ) (k : KnownNames) → n ≡ 256 → k.places.items ≡ replicate n None → (symbols : List Mention) → AreNamed symbols k
none_named n k many same symbols =
    record {
      places = ap length same ∙ (length-replicate n None ∙ many);
      named = subst (All (λ (o : Option Named). IfSome o (IsNamed symbols))) (sym same) (All-replicate (λ (o : Option Named). IfSome o (IsNamed symbols)) n None (search rules));
    }

pub returns : goal.returns
returns c = none_named 256 _ refl (c.in_ok-places.ensures.items_if_clones_equal (nothing_else _ (λ k e. e)))

-- what fails has no value
failed : {T E : Type 0} (r : Result T E) (P : T → Type 0) (Q : E → Type 0) → IsErrAnd r Q → IfOk r P
failed (Ok v) P Q h = absurd h
failed (Err e) P Q h = tt

pub returns-in_err-places : goal.returns-in_err-places
returns-in_err-places c = failed c.from_residual.result _ _ c.from_residual.ensures.1
