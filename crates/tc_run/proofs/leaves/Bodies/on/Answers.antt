use Rattle.std.proofs.Common.{◌≤◌, length, arith}
use Rattle.tc_run.proofs.OnLeaves.{no_more_left, body_on_leaf}
use Rattle.tc_run.proofs.leaves.Bodies.on.Goals as goal

pub returns-then-is_empty : goal.returns-then-is_empty
returns-then-is_empty c =
    let none : length c.args.here.now.kids.now ≤ 0 = grind (arith, c.is_empty.ensures, c.if-is_empty.true) in
    body_on_leaf c.args.self.now c.args.here.now (no_more_left c.args.here.now.kids.now none)
