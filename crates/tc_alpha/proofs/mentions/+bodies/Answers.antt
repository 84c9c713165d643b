use Rattle.std.proofs.Common.{◌≡◌, ℕ, ◌++◌, ◌⊎◌, ◌+◌, inl, inr, ap, sym, drop, refl, ◌∙◌, Bor, List}
use Rattle.std.proofs.lemmas.List.{drop_all}
use Rattle.tc_alpha.specs.Views.{seen}
use Rattle.tc_model.specs.Views as see
use Rattle.tc_model.specs.Sheets as s
use Rattle.tc_model.specs.Symbols.{mentions_of_name}
use Rattle.tc_model.specs.declared.sheet.Instr.{Instr, Apply, ValueOf}
use Rattle.tc_model.specs.declared.sheet.Branch.{Branch}
use Rattle.tc_model.specs.declared.sheet.Instr.TheVariants as v
use Rattle.tc_model.specs.declared.sheet.Path.{Path}
use Rattle.tc_model.proofs.ViewsBody.{see_text, see_call, see_value_of_self, see_elem, see_copy, see_apply, see_value_of, see_choose, see_for_each}
use Rattle.tc_alpha.proofs.Steps.{then_on_ok, after_one, after_two, body_in, branch_moved, branches_in, instruction_step, nothing_left, path_in}
use Rattle.tc_alpha.proofs.mentions.+bodies.Goals as goal

-- an instruction that selects by a path, or puts out the value of what it selects
selects : (i : Instr) (p : Path) → ((m : ℕ) × (i ≡ Apply p m)) ⊎ (i ≡ ValueOf p) → (rest : s.Body) → body_in (see.instruction i rest) ≡ path_in (see.path p) ++ body_in rest
selects i p (inl is) rest = ap (λ x. body_in (see.instruction x rest)) is.1 ∙ ap body_in (see_apply p is.0 rest)
selects i p (inr is) rest = ap (λ x. body_in (see.instruction x rest)) is ∙ ap body_in (see_value_of p rest)

pub mention_instruction-returns-in_ok-add-in-Elem : goal.mention_instruction-returns-in_ok-add-in-Elem
mention_instruction-returns-in_ok-add-in-Elem t c =
    then_on_ok c.mention_body.result _ _
    (λ put rest.
    after_two (seen c.args.found.now.items) (seen c.add.new.found.items) (seen c.mention_body.new.found.items) (mentions_of_name (see.name c.in-Elem.name)) (body_in (see.body c.in-Elem.body.now)) (body_in rest) _
    c.in_ok-add-in-Elem.ensures put (ap (λ i. body_in (see.instruction i rest)) c.in-Elem.is ∙ ap body_in (see_elem c.in-Elem.name c.in-Elem.body rest)))
    c.mention_body.ensures

pub mention_instruction-returns-in-Copy : goal.mention_instruction-returns-in-Copy
mention_instruction-returns-in-Copy t c =
    then_on_ok c.mention_body-in-Copy.result _ _
    (λ put rest.
    after_one (seen c.args.found.now.items) (seen c.mention_body-in-Copy.new.found.items) (body_in (see.body c.in-Copy.body.now)) (body_in rest) _
    put (ap (λ i. body_in (see.instruction i rest)) c.in-Copy.is ∙ ap body_in (see_copy c.in-Copy.body rest)))
    c.mention_body-in-Copy.ensures

pub mention_instruction-returns-in_ok-mention_branches-in-Choose : goal.mention_instruction-returns-in_ok-mention_branches-in-Choose
mention_instruction-returns-in_ok-mention_branches-in-Choose t c =
    let last = s.otherwise (see.body c.in-Choose.otherwise.now) in
    then_on_ok c.mention_body-in-Choose.result _ _
    (λ put rest.
    after_one (seen c.args.found.now.items) (seen c.mention_body-in-Choose.new.found.items) (branches_in (see.branches c.in-Choose.branches.now last)) (body_in rest) _
    (put ∙ c.in_ok-mention_branches-in-Choose.ensures last)
    (ap (λ i. body_in (see.instruction i rest)) c.in-Choose.is ∙ ap body_in (see_choose c.in-Choose.branches c.in-Choose.otherwise rest)))
    c.mention_body-in-Choose.ensures

pub mention_instruction-returns-in_ok-mention_path-in-ForEach : goal.mention_instruction-returns-in_ok-mention_path-in-ForEach
mention_instruction-returns-in_ok-mention_path-in-ForEach t c =
    then_on_ok c.mention_body-in-ForEach.result _ _
    (λ put rest.
    after_two (seen c.args.found.now.items) (seen c.mention_path.new.found.items) (seen c.mention_body-in-ForEach.new.found.items) (path_in (see.path c.in-ForEach.path)) (body_in (see.body c.in-ForEach.body.now)) (body_in rest) _
    c.in_ok-mention_path-in-ForEach.ensures put (ap (λ i. body_in (see.instruction i rest)) c.in-ForEach.is ∙ ap body_in (see_for_each c.in-ForEach.field-0 c.in-ForEach.path c.in-ForEach.body rest)))
    c.mention_body-in-ForEach.ensures

pub mention_instruction-returns-in-Apply : goal.mention_instruction-returns-in-Apply
mention_instruction-returns-in-Apply t c =
    then_on_ok c.mention_path-in-Apply.result _ _
    (λ put rest.
    after_one (seen c.args.found.now.items) (seen c.mention_path-in-Apply.new.found.items) (path_in (see.path c.in-Apply.path)) (body_in rest) _
    put (selects c.args.instruction.now c.in-Apply.path c.in-Apply.is rest))
    c.mention_path-in-Apply.ensures

pub mention_body-loop-instruction-preserved : goal.mention_body-loop-instruction-preserved
mention_body-loop-instruction-preserved t c =
    let body = c.args.body.now in
    let i = c.loop-instruction.instruction-index in
    c.in_ok-mention_instruction.ensures (see.body (drop (i + 1) body))
    ∙ (ap (λ l. seen c.loop-instruction.found.items ++ l) (sym (instruction_step body i c.instruction-item.result c.loop-instruction-test.true c.instruction-item.is)) ∙ c.loop-instruction.invariant)

pub mention_branches-loop-branch-preserved : goal.mention_branches-loop-branch-preserved
mention_branches-loop-branch-preserved t c = λ rest.
    branch_moved c.args.branches.now c.loop-branch.branch-index _ rest (seen c.loop-branch.found.items) (seen c.mention_test.new.found.items) (seen c.mention_body.new.found.items) _ c.loop-branch-test.true
    c.in_ok-mention_test.ensures c.in_ok-mention_body.ensures (c.loop-branch.invariant rest)

-- an instruction that mentions nothing
silent : (i : Instr) → ((x : Bor (List ℕ)) × (i ≡ v.Text x)) ⊎ (((n : ℕ) × (i ≡ v.Call n)) ⊎ (i ≡ v.ValueOfSelf)) → (rest : s.Body) → body_in (see.instruction i rest) ≡ body_in rest
silent i (inl is) rest = ap (λ x. body_in (see.instruction x rest)) is.1 ∙ ap body_in (see_text is.0 rest)
silent i (inr (inl is)) rest = ap (λ x. body_in (see.instruction x rest)) is.1 ∙ ap body_in (see_call is.0 rest)
silent i (inr (inr is)) rest = ap (λ x. body_in (see.instruction x rest)) is ∙ ap body_in (see_value_of_self rest)

pub mention_instruction-returns-in-Text : goal.mention_instruction-returns-in-Text
mention_instruction-returns-in-Text t c = λ rest. ap (λ l. seen c.args.found.now.items ++ l) (sym (silent c.args.instruction.now c.in-Text.is rest))

pub mention_body-loop-instruction-init : goal.mention_body-loop-instruction-init
mention_body-loop-instruction-init t c = refl

pub mention_body-returns : goal.mention_body-returns
mention_body-returns t c =
    nothing_left (seen c.loop-instruction.found.items) _ _ (ap (λ (l : List Instr). body_in (see.body l)) (drop_all c.loop-instruction.instruction-index c.args.body.now c.loop-instruction-test.false)) c.loop-instruction.invariant

pub mention_branches-loop-branch-init : goal.mention_branches-loop-branch-init
mention_branches-loop-branch-init t c = λ rest. refl

pub mention_branches-returns : goal.mention_branches-returns
mention_branches-returns t c = λ rest.
    ap (λ (l : List Branch). seen c.loop-branch.found.items ++ branches_in (see.branches l rest)) (sym (drop_all c.loop-branch.branch-index c.args.branches.now c.loop-branch-test.false)) ∙ c.loop-branch.invariant rest
