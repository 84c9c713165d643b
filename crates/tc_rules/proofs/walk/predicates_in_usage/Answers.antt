use Rattle.std.proofs.Common.{◌≡◌, ◌⊎◌, ◌++◌, ◌∙◌, ℕ, Bor, List, ap, inl, inr, sym}
use Rattle.tc_model.specs.Numberings as n
use Rattle.tc_model.specs.Views as see
use Rattle.tc_model.specs.declared.sheet.Instr.{Instr}
use Rattle.tc_model.specs.declared.sheet.Path.{Path}
use Rattle.tc_rules.specs.Usages.{predicates_in_usage}
use Rattle.tc_rules.specs.Views.{predicates, usage}
use Rattle.tc_rules.specs.declared.walk.Usage.{Usage}
use Rattle.tc_rules.specs.declared.walk.Usage.TheVariants as v
use Rattle.tc_rules.proofs.Steps.{then_on_ok}
use Rattle.tc_rules.proofs.walk.predicates_in_usage.Goals as goal

-- a usage that tells of the predicates of a path
of_path : (u : Usage) (p : Bor Path) → (u ≡ v.Value p) ⊎ (((m : ℕ) × (u ≡ v.Apply p m)) ⊎ ((e : ℕ) × (b : Bor (List Instr)) × (u ≡ v.Each e p b))) → predicates_in_usage (usage u) ≡ n.predicates_in_path (see.path p.now)
of_path u p (inl is) = ap (λ x. predicates_in_usage (usage x)) is
of_path u p (inr (inl is)) = ap (λ x. predicates_in_usage (usage x)) is.1
of_path u p (inr (inr is)) = ap (λ x. predicates_in_usage (usage x)) is.2

pub returns-in-Pattern : goal.returns-in-Pattern
returns-in-Pattern c =
    then_on_ok c.predicates_in_pattern.result _ _ (λ put. put ∙ ap (λ u. predicates c.args.found.now.items ++ predicates_in_usage (usage u)) (sym c.in-Pattern.is)) c.predicates_in_pattern.ensures

pub returns-in-Test : goal.returns-in-Test
returns-in-Test c =
    then_on_ok c.predicates_in_test.result _ _ (λ put. put ∙ ap (λ u. predicates c.args.found.now.items ++ predicates_in_usage (usage u)) (sym c.in-Test.is)) c.predicates_in_test.ensures

pub returns-in-Value : goal.returns-in-Value
returns-in-Value c =
    then_on_ok c.predicates_in_path.result _ _ (λ put. put ∙ ap (λ w. predicates c.args.found.now.items ++ w) (sym (of_path c.args.usage.now c.in-Value.path c.in-Value.is))) c.predicates_in_path.ensures
