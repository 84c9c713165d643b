-- The patterns of rules are put together one by one.
use Rattle.std.proofs.Common.{◌≡◌, ℕ, zero, suc, ◌+◌, ◌<◌, List, [], ◌∷◌, ◌++◌, refl, ap, sym, ◌∙◌, map, take, get_or, length, Bor, arith, add-one}
use Rattle.std.proofs.lemmas.List.{get_or_default}
use Rattle.tc_model.specs.Sheets.{Steps, Path, no_alternative, alternative}
use Rattle.tc_model.specs.PathStates.{path_of_rules, steps_of}
use Rattle.tc_model.specs.Views as see
use Rattle.tc_model.specs.declared.sheet.Rule.{Rule}
use Rattle.tc_model.specs.declared.sheet.Step.{Step}

-- one alternative more, at the end
abbrev and_last : Path → Steps → Path
and_last no_alternative ss = alternative ss no_alternative
and_last (alternative us p) ss = alternative us (and_last p ss)

alternatives_and_last : (ws : List (Bor (List Step))) (w : Bor (List Step)) → see.alternatives (ws ++ w ∷ []) ≡ and_last (see.alternatives ws) (see.steps w.now)
alternatives_and_last [] w = refl
alternatives_and_last (u ∷ ws) w = ap (alternative (see.steps u.now)) (alternatives_and_last ws w)

rules_and_last : (xs : List Rule) (i : ℕ) (x : Rule) → i < length xs → x ≡ get_or xs i x
    → path_of_rules (map see.rule (take (suc i) xs)) ≡ and_last (path_of_rules (map see.rule (take i xs))) (steps_of (see.match_pattern x.pattern))
rules_and_last [] i x h e = absurd (omega arith)
rules_and_last (y ∷ xs) zero x h e = ap (λ (r : Rule). alternative (steps_of (see.match_pattern r.pattern)) no_alternative) (sym e)
rules_and_last (y ∷ xs) (suc i) x h e = ap (alternative (steps_of (see.match_pattern y.pattern))) (rules_and_last xs i x (omega arith) e)

pub rule_pushed : (ws : List (Bor (List Step))) (w : Bor (List Step)) (xs : List Rule) (i : ℕ) (x : Rule) → i < length xs → x ≡ get_or xs i x
    → see.steps w.now ≡ steps_of (see.match_pattern x.pattern) → see.alternatives ws ≡ path_of_rules (map see.rule (take i xs))
    → see.alternatives (ws ++ w ∷ []) ≡ path_of_rules (map see.rule (take (i + 1) xs))
rule_pushed ws w xs i x h e put so_far =
    alternatives_and_last ws w
    ∙ (ap (λ p. and_last p (see.steps w.now)) so_far
    ∙ (ap (and_last (path_of_rules (map see.rule (take i xs)))) put
    ∙ (sym (rules_and_last xs i x h e) ∙ ap (λ n. path_of_rules (map see.rule (take n xs))) (sym (add-one i)))))

pub rule_at : (ws new : List (Bor (List Step))) (w : Bor (List Step)) (xs : List Rule) (i : ℕ) (d : Rule) → i < length xs → new ≡ ws ++ w ∷ []
    → see.steps w.now ≡ steps_of (see.match_pattern (get_or xs i d).pattern) → see.alternatives ws ≡ path_of_rules (map see.rule (take i xs))
    → see.alternatives new ≡ path_of_rules (map see.rule (take (i + 1) xs))
rule_at ws new w xs i d l is put so_far =
    ap see.alternatives is ∙ rule_pushed ws w xs i (get_or xs i d) l (get_or_default xs i d (get_or xs i d) l) put so_far
