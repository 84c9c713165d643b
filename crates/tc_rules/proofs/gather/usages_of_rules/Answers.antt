use Rattle.std.proofs.Common.{◌≡◌, ◌+◌, ◌<◌, ◌++◌, ◌∷◌, ◌∙◌, ℕ, List, [], ap, append_assoc, drop, get_or, length, map, refl, sym}
use Rattle.std.proofs.lemmas.List.{append-nil, drop_all, drop_more}
use Rattle.tc_model.specs.Views as see
use Rattle.tc_model.specs.declared.sheet.Rule.{Rule}
use Rattle.tc_rules.specs.Usages.{Usage, of_pattern, usages_in, usages_of_rules}
use Rattle.tc_rules.specs.Views.{usages}
use Rattle.tc_rules.proofs.gather.usages_of_rules.Goals as goal

one_rule : (start old mid new : List Usage) (xs : List Rule) (i : ℕ) (d : Rule) → i < length xs → mid ≡ old ++ of_pattern (see.match_pattern (get_or xs i d).pattern) ∷ [] → new ≡ mid ++ usages_in (see.body (get_or xs i d).body.now)
    → old ++ usages_of_rules (map see.rule (drop i xs)) ≡ start → new ++ usages_of_rules (map see.rule (drop (i + 1) xs)) ≡ start
one_rule start old mid new xs i d h first then k =
    let rest = usages_of_rules (map see.rule (drop (i + 1) xs)) in
    let inside = usages_in (see.body (get_or xs i d).body.now) in
    ap (λ w. w ++ rest) then
    ∙ (append_assoc mid inside rest
    ∙ (ap (λ w. w ++ (inside ++ rest)) first
    ∙ (append_assoc old (of_pattern (see.match_pattern (get_or xs i d).pattern) ∷ []) (inside ++ rest) ∙ (ap (λ (l : List Rule). old ++ usages_of_rules (map see.rule l)) (sym (drop_more xs i d h)) ∙ k))))

pub loop-rule-init : goal.loop-rule-init
loop-rule-init c = refl

pub loop-rule-preserved : goal.loop-rule-preserved
loop-rule-preserved c =
    one_rule (usages c.args.found.now.items ++ usages_of_rules (map see.rule c.args.rules.now)) (usages c.loop-rule.found.items) (usages c.add_usage.new.found.items) (usages c.usages_in_body.new.found.items) c.args.rules.now c.loop-rule.rule-index _
    c.loop-rule-test.true c.in_ok-add_usage.ensures c.in_ok-usages_in_body.ensures c.loop-rule.invariant

pub returns : goal.returns
returns c =
    let found = usages c.loop-rule.found.items in
    sym (append-nil found)
    ∙ (ap (λ (l : List Rule). found ++ usages_of_rules (map see.rule l)) (sym (drop_all c.loop-rule.rule-index c.args.rules.now c.loop-rule-test.false)) ∙ c.loop-rule.invariant)
