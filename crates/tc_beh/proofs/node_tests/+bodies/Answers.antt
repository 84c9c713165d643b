use Rattle.std.proofs.Common.{◌≡◌, ℕ, ◌+◌, List, Bor, ◌++◌, ◌⊎◌, inl, inr, ap, ◌∙◌, sym, drop, get_or}
use Rattle.std.proofs.lemmas.List.{drop_all}
use Rattle.tc_beh.specs.AlikeSymbols.{seen}
use Rattle.tc_model.specs.Views as see
use Rattle.tc_model.specs.Sheets as s
use Rattle.tc_model.specs.declared.sheet.Instr.{Instr, Elem, Copy, Apply, ValueOf}
use Rattle.tc_model.specs.declared.sheet.Path.{Path}
use Rattle.tc_model.specs.declared.tree.Name.{Name}
use Rattle.tc_model.proofs.ViewsBody.{see_elem, see_copy, see_apply, see_value_of, see_choose, see_for_each}
use Rattle.tc_beh.proofs.Instructed.{no_branch, branch_is}
use Rattle.tc_beh.proofs.TestSteps.{then_on_ok, after_one, after_two, ended, moved_twice, instruction_step, branch_step, body_in, branches_in, path_in, test_in}
use Rattle.tc_beh.proofs.node_tests.+bodies.Goals as goal

-- an instruction that selects by a path, or puts out the value of what it selects
selects : (i : Instr) (p : Path) → ((m : ℕ) × (i ≡ Apply p m)) ⊎ (i ≡ ValueOf p) → (rest : s.Body) → body_in (see.instruction i rest) ≡ path_in (see.path p) ++ body_in rest
selects i p (inl is) rest = ap (λ x. body_in (see.instruction x rest)) is.1 ∙ ap body_in (see_apply p is.0 rest)
selects i p (inr is) rest = ap (λ x. body_in (see.instruction x rest)) is ∙ ap body_in (see_value_of p rest)

-- an instruction with a body, the name of an element being no node test
wraps : (i : Instr) (b : Bor (List Instr)) → ((n : Name) × (i ≡ Elem n b)) ⊎ (i ≡ Copy b) → (rest : s.Body) → body_in (see.instruction i rest) ≡ body_in (see.body b.now) ++ body_in rest
wraps i b (inl is) rest = ap (λ x. body_in (see.instruction x rest)) is.1 ∙ ap body_in (see_elem is.0 b rest)
wraps i b (inr is) rest = ap (λ x. body_in (see.instruction x rest)) is ∙ ap body_in (see_copy b rest)

pub add_instruction-returns-in-Elem : goal.add_instruction-returns-in-Elem
add_instruction-returns-in-Elem t c =
    then_on_ok c.add_body-in-Elem.result _ _
    (λ put rest.
    after_one (seen c.args.found.now.items) (seen c.add_body-in-Elem.new.found.items) (body_in (see.body c.in-Elem.body.now)) (body_in rest) _
    put (wraps c.args.instruction.now c.in-Elem.body c.in-Elem.is rest))
    c.add_body-in-Elem.ensures

pub add_instruction-returns-in_ok-add_branches-in-Choose : goal.add_instruction-returns-in_ok-add_branches-in-Choose
add_instruction-returns-in_ok-add_branches-in-Choose t c =
    let last = s.otherwise (see.body c.in-Choose.otherwise.now) in
    then_on_ok c.add_body.result _ _
    (λ put rest.
    after_one (seen c.args.found.now.items) (seen c.add_body.new.found.items) (branches_in (see.branches c.in-Choose.branches.now last)) (body_in rest) _
    (put ∙ c.in_ok-add_branches-in-Choose.ensures last)
    (ap (λ i. body_in (see.instruction i rest)) c.in-Choose.is ∙ ap body_in (see_choose c.in-Choose.branches c.in-Choose.otherwise rest)))
    c.add_body.ensures

pub add_instruction-returns-in_ok-add_path-in-ForEach : goal.add_instruction-returns-in_ok-add_path-in-ForEach
add_instruction-returns-in_ok-add_path-in-ForEach t c =
    then_on_ok c.add_body-in-ForEach.result _ _
    (λ put rest.
    after_two (seen c.args.found.now.items) (seen c.add_path.new.found.items) (seen c.add_body-in-ForEach.new.found.items) (path_in (see.path c.in-ForEach.path)) (body_in (see.body c.in-ForEach.body.now)) (body_in rest) _
    c.in_ok-add_path-in-ForEach.ensures put (ap (λ i. body_in (see.instruction i rest)) c.in-ForEach.is ∙ ap body_in (see_for_each c.in-ForEach.field-0 c.in-ForEach.path c.in-ForEach.body rest)))
    c.add_body-in-ForEach.ensures

pub add_instruction-returns-in-Apply : goal.add_instruction-returns-in-Apply
add_instruction-returns-in-Apply t c =
    then_on_ok c.add_path-in-Apply.result _ _
    (λ put rest.
    after_one (seen c.args.found.now.items) (seen c.add_path-in-Apply.new.found.items) (path_in (see.path c.in-Apply.path)) (body_in rest) _
    put (selects c.args.instruction.now c.in-Apply.path c.in-Apply.is rest))
    c.add_path-in-Apply.ensures

pub add_body-loop-instruction-preserved : goal.add_body-loop-instruction-preserved
add_body-loop-instruction-preserved t c =
    let is = c.args.body.now in
    let k = c.loop-instruction.instruction-index in
    let x = c.instruction-item.result in
    c.in_ok-add_instruction.ensures (see.body (drop (k + 1) is)) ∙ (ap (λ l. seen c.loop-instruction.found.items ++ l) (sym (instruction_step is k x c.loop-instruction-test.true c.instruction-item.is)) ∙ c.loop-instruction.invariant)

pub add_body-returns : goal.add_body-returns
add_body-returns t c = ended (seen c.loop-instruction.found.items) _ _ c.loop-instruction.invariant (ap (λ l. body_in (see.body l)) (drop_all c.loop-instruction.instruction-index c.args.body.now c.loop-instruction-test.false))

pub add_branches-loop-branch-preserved : goal.add_branches-loop-branch-preserved
add_branches-loop-branch-preserved t c = λ rest.
    let bs = c.args.branches.now in
    let k = c.loop-branch.branch-index in
    let x = get_or bs k no_branch in
    moved_twice (seen c.loop-branch.found.items) (seen c.add_test.new.found.items) (seen c.add_body.new.found.items) (test_in (see.test x.test)) (body_in (see.body x.body.now)) _ _ _
    c.in_ok-add_test.ensures c.in_ok-add_body.ensures (branch_step bs k x rest c.loop-branch-test.true (branch_is bs k no_branch c.loop-branch-test.true)) (c.loop-branch.invariant rest)

pub add_branches-returns : goal.add_branches-returns
add_branches-returns t c = λ rest.
    ap (λ l. seen c.loop-branch.found.items ++ branches_in (see.branches l rest)) (sym (drop_all c.loop-branch.branch-index c.args.branches.now c.loop-branch-test.false)) ∙ c.loop-branch.invariant rest
