use Rattle.std.proofs.Common.{ap, ◌∙◌, sym, ◌+◌, ◌++◌, ◌∷◌, [], drop, get_or}
use Rattle.std.proofs.lemmas.List.{drop_all}
use Rattle.tc_beh.specs.Callees.{callees_in, callees_in_branches}
use Rattle.tc_beh.proofs.Steps.{then_on_ok, after_one, ended}
use Rattle.tc_model.specs.Sheets as s
use Rattle.tc_model.specs.Views as see
use Rattle.tc_model.proofs.ViewsBody.{see_elem, see_copy, see_call, see_choose, see_for_each, left_instruction, left_branch}
use Rattle.tc_beh.proofs.Instructed.{no_branch, branch_is}
use Rattle.tc_beh.proofs.calls.+callees.Goals as goal

pub put_callees_of_one-returns-in-Elem : goal.put_callees_of_one-returns-in-Elem
put_callees_of_one-returns-in-Elem t c =
    then_on_ok c.put_callees.result _ _
    (λ put rest.
    after_one c.args.found.now.items c.put_callees.new.found.items (callees_in (see.body c.in-Elem.inner.now)) (callees_in rest) _
    put (ap (λ i. callees_in (see.instruction i rest)) c.in-Elem.is ∙ ap callees_in (see_elem c.in-Elem.field-0 c.in-Elem.inner rest)))
    c.put_callees.ensures

pub put_callees_of_one-returns-in-Copy : goal.put_callees_of_one-returns-in-Copy
put_callees_of_one-returns-in-Copy t c =
    then_on_ok c.put_callees-in-Copy.result _ _
    (λ put rest.
    after_one c.args.found.now.items c.put_callees-in-Copy.new.found.items (callees_in (see.body c.in-Copy.inner.now)) (callees_in rest) _
    put (ap (λ i. callees_in (see.instruction i rest)) c.in-Copy.is ∙ ap callees_in (see_copy c.in-Copy.inner rest)))
    c.put_callees-in-Copy.ensures

pub put_callees_of_one-returns-in-ForEach : goal.put_callees_of_one-returns-in-ForEach
put_callees_of_one-returns-in-ForEach t c =
    then_on_ok c.put_callees-in-ForEach.result _ _
    (λ put rest.
    after_one c.args.found.now.items c.put_callees-in-ForEach.new.found.items (callees_in (see.body c.in-ForEach.inner.now)) (callees_in rest) _
    put (ap (λ i. callees_in (see.instruction i rest)) c.in-ForEach.is ∙ ap callees_in (see_for_each c.in-ForEach.field-0 c.in-ForEach.field-1 c.in-ForEach.inner rest)))
    c.put_callees-in-ForEach.ensures

pub put_callees_of_one-returns-in_ok-put_callees_of_branches-in-Choose : goal.put_callees_of_one-returns-in_ok-put_callees_of_branches-in-Choose
put_callees_of_one-returns-in_ok-put_callees_of_branches-in-Choose t c =
    let last = s.otherwise (see.body c.in-Choose.last.now) in
    then_on_ok c.put_callees-in-Choose.result _ _
    (λ put rest.
    after_one c.args.found.now.items c.put_callees-in-Choose.new.found.items (callees_in_branches (see.branches c.in-Choose.branches.now last)) (callees_in rest) _
    (put ∙ c.in_ok-put_callees_of_branches-in-Choose.ensures last)
    (ap (λ i. callees_in (see.instruction i rest)) c.in-Choose.is ∙ ap callees_in (see_choose c.in-Choose.branches c.in-Choose.last rest)))
    c.put_callees-in-Choose.ensures

pub put_callees-loop-instruction-preserved : goal.put_callees-loop-instruction-preserved
put_callees-loop-instruction-preserved t c =
    let is = c.args.body.now in
    let k = c.loop-instruction.instruction-index in
    let next = ap callees_in (left_instruction is k c.instruction-item.result c.loop-instruction-test.true c.instruction-item.is) in
    c.in_ok-put_callees_of_one.ensures (see.body (drop (k + 1) is)) ∙ (ap (λ l. c.loop-instruction.found.items ++ l) (sym next) ∙ c.loop-instruction.invariant)

pub put_callees-returns : goal.put_callees-returns
put_callees-returns t c = ended c.loop-instruction.found.items _ _ c.loop-instruction.invariant (ap (λ l. callees_in (see.body l)) (drop_all c.loop-instruction.instruction-index c.args.body.now c.loop-instruction-test.false))

pub put_callees_of_branches-loop-branch-preserved : goal.put_callees_of_branches-loop-branch-preserved
put_callees_of_branches-loop-branch-preserved t c = λ rest.
    let bs = c.args.branches.now in
    let k = c.loop-branch.branch-index in
    let b = get_or bs k no_branch in
    let next = ap callees_in_branches (left_branch bs k b rest c.loop-branch-test.true (branch_is bs k no_branch c.loop-branch-test.true)) in
    after_one c.loop-branch.found.items c.put_callees.new.found.items (callees_in (see.body b.body.now)) (callees_in_branches (see.branches (drop (k + 1) bs) rest)) _ c.in_ok-put_callees.ensures next ∙ c.loop-branch.invariant rest

pub put_callees_of_branches-returns : goal.put_callees_of_branches-returns
put_callees_of_branches-returns t c = λ rest.
    ap (λ l. c.loop-branch.found.items ++ callees_in_branches (see.branches l rest)) (sym (drop_all c.loop-branch.branch-index c.args.branches.now c.loop-branch-test.false)) ∙ c.loop-branch.invariant rest

pub put_callees_of_one-returns-in-Call : goal.put_callees_of_one-returns-in-Call
put_callees_of_one-returns-in-Call t c =
    then_on_ok c.put_callee.result _ _
    (λ put rest.
    after_one c.args.found.now.items c.put_callee.new.found.items (c.in-Call.number ∷ []) (callees_in rest) _
    put (ap (λ i. callees_in (see.instruction i rest)) c.in-Call.is ∙ ap callees_in (see_call c.in-Call.number rest)))
    c.put_callee.ensures
