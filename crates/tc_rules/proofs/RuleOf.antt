-- What is meant on a node: the body of the rule that was chosen, a built-in one, or that of a for-each.
use Rattle.std.proofs.Common.{◌≡◌, ℕ, zero, suc, ◌+◌, ◌<◌, List, [], ◌∷◌, refl, ap, ◌∙◌, sym, subst, Bool, Option, Some, None, option_map, slice_get, arith, Contains}
use Rattle.std.proofs.lemmas.Option.{same_Some}
use Rattle.tc_model.specs.Sheets.{Body, Rule, Sheet, CallFreeBody, Inlines}
use Rattle.tc_model.specs.Machine.{CallFreeJob, in_mode, in_body}
use Rattle.tc_model.specs.RuleStates.{IsRuleOf}
use Rattle.tc_model.specs.WellFormed.{ForEach, eaches_of}
use Rattle.tc_rules.specs.States.{AllInline, Chosen, chosen, or_plain, plain_of}
use Rattle.tc_rules.proofs.Chosen.{number_of_chosen, rule_is_chosen, one_rule}
use Rattle.tc_rules.specs.Tasks.{IsTaskOf, of_mode, of_each}

-- the number of what was chosen is that of the rule
number_is : (o : Option Chosen) → number_of_chosen o ≡ option_map (λ w. w.number) o
number_is None = refl
number_is (Some x) = refl

pub chosen_number : (rs : List Rule) (m : ℕ) (f : ℕ → Rule → Bool) (i : Option ℕ) → IsRuleOf rs m f i → option_map (λ w. w.number) (chosen rs m f) ≡ i
chosen_number rs m f i h = sym (number_is (chosen rs m f)) ∙ one_rule m rs f (number_of_chosen (chosen rs m f)) i (rule_is_chosen m rs f) h

-- its body has calls in place
unfolded_at : (named : List Body) (rs : List Rule) (ps : List CallFreeBody) → AllInline named rs ps → (i : ℕ) (r : Rule) → slice_get rs i ≡ Some r
    → (p : CallFreeBody) × (slice_get ps i ≡ Some p) × Inlines named r.body p
unfolded_at named [] ps u i r e = absurd (cc)
unfolded_at named (q ∷ rs) [] u i r e = absurd u
unfolded_at named (q ∷ rs) (p ∷ ps) u zero r e = (p, refl, subst (λ (x : Rule). Inlines named x.body p) (same_Some _ _ e) u.0)
unfolded_at named (q ∷ rs) (p ∷ ps) u (suc i) r e = unfolded_at named rs ps u.1 i r e

pub rule_chosen : (named : List Body) (rs : List Rule) (bodies : List CallFreeBody) → AllInline named rs bodies → (b : CallFreeBody) (o : Option Chosen) (i : ℕ) (r : Rule)
    → option_map (λ w. w.number) o ≡ Some i → slice_get rs i ≡ Some r → Inlines named r.body (plain_of bodies b o)
rule_chosen named rs bodies u b None i r e at = absurd (cc)
rule_chosen named rs bodies u b (Some x) i r e at =
    let (p, there, k) = unfolded_at named rs bodies u x.number r (ap (slice_get rs) (same_Some _ _ e) ∙ at) in
    subst (λ w. Inlines named r.body (or_plain b w)) (sym there) k

-- the task of a mode, and that of a for-each
pub mode_task : (s : Sheet) (m : ℕ) (k : CallFreeJob) → m < s.modes → IsTaskOf s m k → k ≡ in_mode m
mode_task s m k h (of_mode l) = refl
mode_task s m k h (of_each {f} e c u) = absurd (omega (arith, h, e))

pub record EachTask (s : Sheet) (each : ℕ) (k : CallFreeJob) : Type 0 where
  pub found : ForEach
  pub plain : CallFreeBody
  pub task : k ≡ in_body plain
  pub number : found.number ≡ each
  pub there : Contains (eaches_of s) found
  pub unfolds : Inlines s.named found.body plain

pub each_task : (s : Sheet) (n each : ℕ) (k : CallFreeJob) → n ≡ s.modes + each → IsTaskOf s n k → EachTask s each k
each_task s n each k e (of_mode l) = absurd (omega (arith, l, e))
each_task s n each k e (of_each {f} {p} g c u) = record { found = f; plain = p; task = refl; number = omega (arith, e, g); there = c; unfolds = u }
