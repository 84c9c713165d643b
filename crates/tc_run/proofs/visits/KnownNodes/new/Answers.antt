use Rattle.std.proofs.Common.{◌≡◌, ℕ, List, Option, None, Some, Result, Ok, Err, replicate, All, IfOk, IfSome, refl, sym, subst, rules}
use Rattle.std.specs.Result.{IsErrAnd}
use Rattle.std.proofs.lemmas.List.Elements.{All-replicate}
use Rattle.tc_model.specs.Trees.{Trees}
use Rattle.tc_run.specs.ChildMoves.{AreFirst}
use Rattle.tc_run.specs.Leaves.{AreLeaves}
use Rattle.tc_run.specs.Running.{Guide, guide, numbered_by, sheet_by}
use Rattle.tc_run.specs.Sights.{AreSeenUnder}
use Rattle.tc_run.specs.Visits.{AreFoundBy, IsKnown}
use Rattle.tc_run.specs.declared.runner.Runner.{Runner}
use Rattle.tc_run.specs.declared.visits.Known.{Known}
use Rattle.tc_run.specs.declared.visits.KnownNodes.{KnownNodes}
use Rattle.tc_run.proofs.visits.KnownNodes.new.Goals as goal

-- what can't be remembered is nothing
nothing_else : (IsOne : Option Known → Type 0) → ((k : Known) → IsOne (Some k) → ⊥) → (o : Option Known) → IsOne o → o ≡ None
nothing_else IsOne none None is = refl
nothing_else IsOne none (Some k) is = absurd (none k is)

none_known : (r : Runner) (n : ℕ) (k : KnownNodes) → k.places.items ≡ replicate n None → AreFirst r k.children → AreLeaves (sheet_by r) k.leaves → ((g : Guide) (numbered : List Trees) → AreSeenUnder g numbered k.sights) → AreFoundBy r k
none_known r n k same first leaves seen = record { children = first; leaves = leaves; sights = seen (guide r) (numbered_by r); found = subst (All (λ (o : Option Known). IfSome o (IsKnown r))) (sym same) (All-replicate (λ (o : Option Known). IfSome o (IsKnown r)) n None (search rules)) }

pub returns : goal.returns
returns c = none_known c.args.runner.now 2048 _ (c.in_ok-places.ensures.items_if_clones_equal (nothing_else _ (λ k e. e))) c.in_ok-children.ensures c.in_ok-leaves.ensures c.in_ok-sights.ensures

-- what fails has no value
failed : {T E : Type 0} (r : Result T E) (P : T → Type 0) (Q : E → Type 0) → IsErrAnd r Q → IfOk r P
failed (Ok v) P Q h = absurd h
failed (Err e) P Q h = tt

pub returns-in_err-places : goal.returns-in_err-places
returns-in_err-places c = failed c.from_residual.result _ _ c.from_residual.ensures.1

pub returns-in_err-sights : goal.returns-in_err-sights
returns-in_err-sights c = failed c.from_residual-in_err-sights.result _ _ c.from_residual-in_err-sights.ensures.1

pub returns-in_err-children : goal.returns-in_err-children
returns-in_err-children c = failed c.from_residual-in_err-children.result _ _ c.from_residual-in_err-children.ensures.1

pub returns-in_err-leaves : goal.returns-in_err-leaves
returns-in_err-leaves c = failed c.from_residual-in_err-leaves.result _ _ c.from_residual-in_err-leaves.ensures.1
