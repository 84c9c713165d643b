use Rattle.std.proofs.Common.{◌≡◌, ℕ, List, Option, None, Some, replicate, All, IfSome, refl, sym, subst, rules}
use Rattle.std.proofs.lemmas.List.Elements.{All-replicate}
use Rattle.tc_model.specs.Trees.{Trees}
use Rattle.tc_run.specs.Findings.{AreFoundUnder, IsFound}
use Rattle.tc_run.specs.Running.{Guide}
use Rattle.tc_run.specs.declared.findings.Finding.{Finding}
use Rattle.tc_run.specs.declared.findings.Findings.{Findings}
use Rattle.tc_run.proofs.findings.Findings.make_room.Goals as goal

-- what can't be remembered is nothing
nothing_else : (IsOne : Option Finding → Type 0) → ((k : Finding) → IsOne (Some k) → ⊥) → (o : Option Finding) → IsOne o → o ≡ None
nothing_else IsOne none None is = refl
nothing_else IsOne none (Some k) is = absurd (none k is)

none_found : (n : ℕ) (k : Findings) → k.places.items ≡ replicate n None → (g : Guide) (numbered : List Trees) → AreFoundUnder g numbered k
none_found n k same g numbered = record {
  found = subst (All (λ (o : Option Finding). IfSome o (IsFound g numbered))) (sym same) (All-replicate (λ (o : Option Finding). IfSome o (IsFound g numbered)) n None (search rules));
}

pub returns-in-Ok : goal.returns-in-Ok
returns-in-Ok c = λ g numbered h. none_found _ _ (c.in-Ok.ensures.items_if_clones_equal (nothing_else _ (λ k e. e))) g numbered
