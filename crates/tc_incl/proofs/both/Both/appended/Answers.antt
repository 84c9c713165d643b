use Rattle.std.proofs.Common.{◌≡◌, false, ◌&&◌}
use Rattle.tc_incl.proofs.Made.{dead_append, appended_fit, is_appended, some_number, and_first, and_second}
use Rattle.tc_incl.proofs.both.Both.appended.Goals.{else-hedge-via-then-hedge+else-tree, else-hedge-via-else-hedge}
use Rattle.tc_incl.proofs.both.Both.appended.Goals as goal

pub returns-then-is_empty : goal.returns-then-is_empty
returns-then-is_empty c = record {
  made = dead_append c.args.self.now c.args.hedge.now c.args.tree.now c.requires.hedge c.requires.tree c.in_ok-first.first c.in_ok-first.ensures.set c.in_ok-first.ensures.size (λ x st. c.in_ok-first.ensures.numbers x c.args.hedge.now.first st c.requires.steps.first) c.args.self.now.first.ended (c.is_empty.ensures.0 c.if-is_empty.true);
}

pub returns : goal.returns
returns c =
    let apart : (c.args.hedge.now.text && c.args.tree.now.text) ≡ false =
    elim c.else-hedge.branch [
      | else-hedge-via-then-hedge+else-tree w ↦ and_second c.args.hedge.now.text c.args.tree.now.text w.if-tree.false
      | else-hedge-via-else-hedge w ↦ and_first c.args.hedge.now.text c.args.tree.now.text w.if-hedge.false
    ]
    in
    let (j, some) = some_number c.in_ok-first.first c.in_ok-first.ensures.set c.is_empty.result c.is_empty.ensures.1 c.if-is_empty.false in
    record {
      made = (
        appended_fit c.args.self.now c.args.hedge.now c.args.tree.now c.requires.hedge c.requires.tree c.in_ok-first.first c.in_ok-first.ensures.set c.in_ok-first.ensures.size (λ x st. c.in_ok-first.ensures.numbers x c.args.hedge.now.first st c.requires.steps.first) c.args.self.now.first.ended
            c.in_ok-second.second c.in_ok-second.ensures.set c.in_ok-second.ensures.size (λ x st. c.in_ok-second.ensures.numbers x c.args.hedge.now.second st c.requires.steps.second) c.args.self.now.second.ended,
        is_appended c.args.self.now c.args.hedge.now c.args.tree.now c.requires.hedge c.requires.tree c.in_ok-first.first c.in_ok-first.ensures.set c.in_ok-first.ensures.size (λ x st. c.in_ok-first.ensures.numbers x c.args.hedge.now.first st c.requires.steps.first) c.args.self.now.first.ended
            c.in_ok-second.second c.in_ok-second.ensures.set c.in_ok-second.ensures.size (λ x st. c.in_ok-second.ensures.numbers x c.args.hedge.now.second st c.requires.steps.second) c.args.self.now.second.ended apart j some,
      );
    }
