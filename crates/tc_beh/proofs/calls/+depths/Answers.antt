use Rattle.std.proofs.Common.{◌≡◌, max, ap, ◌∙◌, sym, drop, arith}
use Rattle.std.proofs.lemmas.List.{drop_all}
use Rattle.tc_beh.specs.Heights.{depth_in, depth_in_branches}
use Rattle.tc_model.specs.Views as see
use Rattle.tc_beh.proofs.calls.+depths.Goals as goal

pub depth-returns : goal.depth-returns
depth-returns t c =
    let none : depth_in (see.body (drop c.loop-instruction.instruction-index c.args.body.now)) ≡ 0 =
    ap (λ l. depth_in (see.body l)) (drop_all c.loop-instruction.instruction-index c.args.body.now c.loop-instruction-test.false) in
    omega (arith, none, c.loop-instruction.invariant)

pub depth_of_branches-returns : goal.depth_of_branches-returns
depth_of_branches-returns t c = λ rest.
    sym (c.loop-branch.invariant rest) ∙ ap (λ l. max c.loop-branch.most (depth_in_branches (see.branches l rest))) (drop_all c.loop-branch.branch-index c.args.branches.now c.loop-branch-test.false)
