use Rattle.std.proofs.Common.{List, Bor, sym, subst, ◌+◌}
use Rattle.tc_model.specs.declared.sheet.Instr.{Instr}
use Rattle.tc_run.specs.Running.{sheet_by}
use Rattle.tc_run.proofs.OnLeaves.{AreLeavesSo, one_more_leaf}
use Rattle.tc_run.proofs.leaves.Leaves.new.Goals as goal

pub loop-rule-preserved : goal.loop-rule-preserved
loop-rule-preserved c =
    let s = sheet_by c.args.runner.now in
    let n = c.loop-rule.rule-index in
    subst (λ (bs : List (Bor (List Instr))). AreLeavesSo s (n + 1) bs) (sym c.in_ok-push.ensures.items)
    (one_more_leaf s c.sheet.result.now n c.loop-rule.bodies.items c.in_ok-body.body c.sheet.ensures c.loop-rule-test.true c.in_ok-body.ensures c.loop-rule.invariant)
