use Rattle.std.proofs.Common.{◌≡◌, ◌⊎◌, Bor, inl, inr, ◌+◌, ◌<◌, ◌++◌, ◌∷◌, ℕ, List, [], ap, drop, get_or, length, refl, sym, ◌∙◌}
use Rattle.std.proofs.lemmas.List.{drop_all, get_or_default}
use Rattle.tc_model.specs.Views as see
use Rattle.tc_model.specs.Sheets as s
use Rattle.tc_model.specs.declared.sheet.Branch.{Branch}
use Rattle.tc_model.specs.declared.sheet.Instr.{Instr}
use Rattle.tc_model.specs.declared.sheet.Instr.TheVariants as v
use Rattle.tc_rules.specs.Usages.{of_test, of_value, of_apply, of_each, usages_in, usages_in_branches}
use Rattle.tc_rules.specs.Views.{usages}
use Rattle.tc_model.proofs.ViewsBody.{see_text, see_call, see_value_of_self, left_branch, left_instruction, see_elem, see_copy, see_apply, see_value_of, see_choose, see_for_each}
use Rattle.tc_rules.proofs.Steps.{then_on_ok, after_one, after_two, moved_twice, nothing_left}
use Rattle.tc_rules.proofs.walk.+bodies.Goals as goal

pub usages_in_instruction-returns-in-Elem : goal.usages_in_instruction-returns-in-Elem
usages_in_instruction-returns-in-Elem t c =
    then_on_ok c.usages_in_body.result _ _
    (λ put rest.
    after_one (usages c.args.found.now.items) (usages c.usages_in_body.new.found.items) (usages_in (see.body c.in-Elem.body.now)) (usages_in rest) _
    put (ap (λ i. usages_in (see.instruction i rest)) c.in-Elem.is ∙ ap usages_in (see_elem c.in-Elem.field-0 c.in-Elem.body rest)))
    c.usages_in_body.ensures

pub usages_in_instruction-returns-in-Copy : goal.usages_in_instruction-returns-in-Copy
usages_in_instruction-returns-in-Copy t c =
    then_on_ok c.usages_in_body-in-Copy.result _ _
    (λ put rest.
    after_one (usages c.args.found.now.items) (usages c.usages_in_body-in-Copy.new.found.items) (usages_in (see.body c.in-Copy.body.now)) (usages_in rest) _
    put (ap (λ i. usages_in (see.instruction i rest)) c.in-Copy.is ∙ ap usages_in (see_copy c.in-Copy.body rest)))
    c.usages_in_body-in-Copy.ensures

pub usages_in_instruction-returns-in-Apply : goal.usages_in_instruction-returns-in-Apply
usages_in_instruction-returns-in-Apply t c =
    then_on_ok c.add_usage.result _ _
    (λ put rest.
    after_one (usages c.args.found.now.items) (usages c.add_usage.new.found.items) (of_apply (see.path c.in-Apply.path) c.in-Apply.mode ∷ []) (usages_in rest) _
    put (ap (λ i. usages_in (see.instruction i rest)) c.in-Apply.is ∙ ap usages_in (see_apply c.in-Apply.path c.in-Apply.mode rest)))
    c.add_usage.ensures

pub usages_in_instruction-returns-in-ValueOf : goal.usages_in_instruction-returns-in-ValueOf
usages_in_instruction-returns-in-ValueOf t c =
    then_on_ok c.add_usage-in-ValueOf.result _ _
    (λ put rest.
    after_one (usages c.args.found.now.items) (usages c.add_usage-in-ValueOf.new.found.items) (of_value (see.path c.in-ValueOf.path) ∷ []) (usages_in rest) _
    put (ap (λ i. usages_in (see.instruction i rest)) c.in-ValueOf.is ∙ ap usages_in (see_value_of c.in-ValueOf.path rest)))
    c.add_usage-in-ValueOf.ensures

pub usages_in_instruction-returns-in_ok-usages_in_branches-in-Choose : goal.usages_in_instruction-returns-in_ok-usages_in_branches-in-Choose
usages_in_instruction-returns-in_ok-usages_in_branches-in-Choose t c =
    let last = s.otherwise (see.body c.in-Choose.otherwise.now) in
    then_on_ok c.usages_in_body-in-Choose.result _ _
    (λ put rest.
    after_one (usages c.args.found.now.items) (usages c.usages_in_body-in-Choose.new.found.items) (usages_in_branches (see.branches c.in-Choose.branches.now last)) (usages_in rest) _
    (put ∙ c.in_ok-usages_in_branches-in-Choose.ensures last)
    (ap (λ i. usages_in (see.instruction i rest)) c.in-Choose.is ∙ ap usages_in (see_choose c.in-Choose.branches c.in-Choose.otherwise rest)))
    c.usages_in_body-in-Choose.ensures

pub usages_in_instruction-returns-in_ok-add_usage-in-ForEach : goal.usages_in_instruction-returns-in_ok-add_usage-in-ForEach
usages_in_instruction-returns-in_ok-add_usage-in-ForEach t c =
    then_on_ok c.usages_in_body-in-ForEach.result _ _
    (λ put rest.
    after_two (usages c.args.found.now.items) (usages c.add_usage-in-ForEach.new.found.items) (usages c.usages_in_body-in-ForEach.new.found.items) (of_each c.in-ForEach.each (see.path c.in-ForEach.path) (see.body c.in-ForEach.body.now) ∷ []) (usages_in (see.body c.in-ForEach.body.now)) (usages_in rest) _
    c.in_ok-add_usage-in-ForEach.ensures put (ap (λ i. usages_in (see.instruction i rest)) c.in-ForEach.is ∙ ap usages_in (see_for_each c.in-ForEach.each c.in-ForEach.path c.in-ForEach.body rest)))
    c.usages_in_body-in-ForEach.ensures

branch_at : (bs : List Branch) (i : ℕ) (d : Branch) (rest : s.Branches) → i < length bs
    → usages_in_branches (see.branches (drop i bs) rest) ≡ (of_test (see.test (get_or bs i d).test) ∷ []) ++ (usages_in (see.body (get_or bs i d).body.now) ++ usages_in_branches (see.branches (drop (i + 1) bs) rest))
branch_at bs i d rest h = ap usages_in_branches (left_branch bs i (get_or bs i d) rest h (get_or_default bs i d (get_or bs i d) h))

pub usages_in_body-loop-instruction-init : goal.usages_in_body-loop-instruction-init
usages_in_body-loop-instruction-init t c = refl

pub usages_in_body-loop-instruction-preserved : goal.usages_in_body-loop-instruction-preserved
usages_in_body-loop-instruction-preserved t c =
    let body = c.args.body.now in
    let i = c.loop-instruction.instruction-index in
    c.in_ok-usages_in_instruction.ensures (see.body (drop (i + 1) body))
    ∙ (ap (λ (b : s.Body). usages c.loop-instruction.found.items ++ usages_in b) (sym (left_instruction body i c.instruction-item.result c.loop-instruction-test.true c.instruction-item.is)) ∙ c.loop-instruction.invariant)

pub usages_in_body-returns : goal.usages_in_body-returns
usages_in_body-returns t c =
    nothing_left (usages c.loop-instruction.found.items) _ _ (ap (λ (l : List Instr). usages_in (see.body l)) (drop_all c.loop-instruction.instruction-index c.args.body.now c.loop-instruction-test.false)) c.loop-instruction.invariant

pub usages_in_branches-loop-branch-init : goal.usages_in_branches-loop-branch-init
usages_in_branches-loop-branch-init t c = λ rest. refl

pub usages_in_branches-loop-branch-preserved : goal.usages_in_branches-loop-branch-preserved
usages_in_branches-loop-branch-preserved t c = λ rest.
    moved_twice _ _ _ _ _ _ _ _ c.in_ok-add_usage.ensures c.in_ok-usages_in_body.ensures (branch_at c.args.branches.now c.loop-branch.branch-index _ rest c.loop-branch-test.true) (c.loop-branch.invariant rest)

pub usages_in_branches-returns : goal.usages_in_branches-returns
usages_in_branches-returns t c = λ rest.
    ap (λ (l : List Branch). usages c.loop-branch.found.items ++ usages_in_branches (see.branches l rest)) (sym (drop_all c.loop-branch.branch-index c.args.branches.now c.loop-branch-test.false)) ∙ c.loop-branch.invariant rest

-- an instruction that tells of nothing
silent : (i : Instr) → ((x : Bor (List ℕ)) × (i ≡ v.Text x)) ⊎ (((n : ℕ) × (i ≡ v.Call n)) ⊎ (i ≡ v.ValueOfSelf)) → (rest : s.Body) → usages_in (see.instruction i rest) ≡ usages_in rest
silent i (inl is) rest = ap (λ x. usages_in (see.instruction x rest)) is.1 ∙ ap usages_in (see_text is.0 rest)
silent i (inr (inl is)) rest = ap (λ x. usages_in (see.instruction x rest)) is.1 ∙ ap usages_in (see_call is.0 rest)
silent i (inr (inr is)) rest = ap (λ x. usages_in (see.instruction x rest)) is ∙ ap usages_in (see_value_of_self rest)

pub usages_in_instruction-returns-in-Text : goal.usages_in_instruction-returns-in-Text
usages_in_instruction-returns-in-Text t c = λ rest. ap (λ l. usages c.args.found.now.items ++ l) (sym (silent c.args.instruction.now c.in-Text.is rest))
