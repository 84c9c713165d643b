use Rattle.std.proofs.Common.{◌≡◌, max, ap, ◌∙◌, sym, drop, arith}
use Rattle.std.proofs.lemmas.List.{drop_all}
use Rattle.tc_beh.specs.Heights.{height_in, height_in_branches}
use Rattle.tc_model.specs.Views as see
use Rattle.tc_beh.proofs.calls.+heights.Goals as goal

pub height-returns : goal.height-returns
height-returns t c =
    let none : height_in c.args.heights.now (see.body (drop c.loop-instruction.instruction-index c.args.body.now)) ≡ 0 =
    ap (λ l. height_in c.args.heights.now (see.body l)) (drop_all c.loop-instruction.instruction-index c.args.body.now c.loop-instruction-test.false) in
    omega (arith, none, c.loop-instruction.invariant)

pub height_of_branches-returns : goal.height_of_branches-returns
height_of_branches-returns t c = λ rest.
    sym (c.loop-branch.invariant rest) ∙ ap (λ l. max c.loop-branch.most (height_in_branches c.args.heights.now (see.branches l rest))) (drop_all c.loop-branch.branch-index c.args.branches.now c.loop-branch-test.false)
