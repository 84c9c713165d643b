use Rattle.tc_rules.specs.MoveTables.{is_move_at}
use Rattle.tc_rules.specs.Views.{moves, move}
use Rattle.tc_rules.proofs.HitRows.{any_here, any_later, any_none}
use Rattle.tc_rules.proofs.move_table.MoveTable.has_among.Goals as goal

pub returns-then-is_move_at : goal.returns-then-is_move_at
returns-then-is_move_at c =
    any_here (is_move_at (moves c.args.modes c.args.self.now.moves.items) (move c.args.modes c.args.sought.now)) c.args.among.now c.loop-number.number-index _ c.is_move_at.result _ c.loop-number-test.true c.is_move_at.ensures c.loop-number.invariant c.if-is_move_at.true

pub loop-number-preserved : goal.loop-number-preserved
loop-number-preserved c =
    any_later (is_move_at (moves c.args.modes c.args.self.now.moves.items) (move c.args.modes c.args.sought.now)) c.args.among.now c.loop-number.number-index _ c.is_move_at.result _ c.loop-number-test.true c.is_move_at.ensures c.loop-number.invariant c.if-is_move_at.false

pub returns : goal.returns
returns c = any_none (is_move_at (moves c.args.modes c.args.self.now.moves.items) (move c.args.modes c.args.sought.now)) c.args.among.now c.loop-number.number-index _ c.loop-number-test.false c.loop-number.invariant
