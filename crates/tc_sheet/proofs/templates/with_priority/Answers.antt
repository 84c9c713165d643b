use Rattle.std.proofs.Common.{◌≡◌, ℕ, ℤ, ◌+◌, ◌<◌, ◌≤◌, ◌∙◌, Option, Some, List, [], ◌∷◌, ◌++◌, ap, append-nil, append_assoc, drop, get_or, length, map, rules, sym}
use Rattle.std.proofs.lemmas.Int.{to_z-of_z}
use Rattle.std.proofs.lemmas.List.{drop_all, drop_more, map_push}
use Rattle.tc_model.specs.SheetTextPhrases.{with_priority}
use Rattle.tc_model.specs.declared.sheet.Alt.{Alt}
use Rattle.tc_path.specs.Views.{alternative}
use Rattle.tc_sheet.proofs.templates.with_priority.Goals as goal

-- one more alternative with the priority that is given
step : (xs : List Alt) (k : ℕ) (d : Alt) (p : ℤ) (old new : List Alt) → k < length xs → new ≡ old ++ (record { pattern = (get_or xs k d).pattern; priority = p }) ∷ []
    → map alternative old ++ with_priority (Some p) (map alternative (drop k xs)) ≡ with_priority (Some p) (map alternative xs)
    → map alternative new ++ with_priority (Some p) (map alternative (drop (k + 1) xs)) ≡ with_priority (Some p) (map alternative xs)
step xs k d p old new h e f =
    let y : Alt = record { pattern = (get_or xs k d).pattern; priority = p } in
    let rest = with_priority (Some p) (map alternative (drop (k + 1) xs)) in
    ap (λ z. map alternative z ++ rest) e
    ∙ (ap (λ z. z ++ rest) (map_push alternative old y)
    ∙ (append_assoc (map alternative old) (alternative y ∷ []) rest ∙ (ap (λ z. map alternative old ++ with_priority (Some p) (map alternative z)) (sym (drop_more xs k d h)) ∙ f)))

begins : (xs : List Alt) (p : ℤ) (new : List Alt) → new ≡ [] → map alternative new ++ with_priority (Some p) (map alternative xs) ≡ with_priority (Some p) (map alternative xs)
begins xs p new e = ap (λ z. map alternative z ++ with_priority (Some p) (map alternative xs)) e

pub loop-alternative-init : goal.loop-alternative-init
loop-alternative-init c = begins c.args.alternatives.now _ c.new-changed.result.items c.new-changed.ensures.items

pub loop-alternative-preserved : goal.loop-alternative-preserved
loop-alternative-preserved c =
    step c.args.alternatives.now c.loop-alternative.alternative-index _ _ c.loop-alternative.changed.items c.push.new.self.items c.loop-alternative-test.true c.in_ok-push.ensures.items
    c.loop-alternative.invariant

-- the alternatives with the priority that is given, at the end
whole : (xs : List Alt) (k : ℕ) (o : Option ℤ) (p q : ℤ) (old new : List Alt) → length xs ≤ k → p ≡ q → o ≡ Some q → new ≡ old
    → map alternative old ++ with_priority (Some p) (map alternative (drop k xs)) ≡ with_priority (Some p) (map alternative xs) → map alternative new ≡ with_priority o (map alternative xs)
whole xs k o p q old new h same is e f =
    ap (map alternative) e
    ∙ (sym (append-nil (map alternative old))
    ∙ (ap (λ z. map alternative old ++ with_priority (Some p) (map alternative z)) (sym (drop_all k xs h)) ∙ (f ∙ (ap (λ z. with_priority (Some z) (map alternative xs)) same ∙ ap (λ z. with_priority z (map alternative xs)) (sym is)))))

pub returns-clause-ok : goal.returns-clause-ok
returns-clause-ok c =
    whole c.args.alternatives.now c.loop-alternative.alternative-index c.args.priority _ c.in-Some.priority c.loop-alternative.changed.items _ c.loop-alternative-test.false (search (rules, to_z-of_z)) c.in-Some.is
    c.into_bump_slice.ensures c.loop-alternative.invariant

pub returns-clause-no : goal.returns-clause-no
returns-clause-no c = tt
