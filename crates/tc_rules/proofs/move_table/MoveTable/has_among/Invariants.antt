use Rattle.std.proofs.Common.{◌≡◌, drop}
use Rattle.std.specs.List.{list_any}
use Rattle.tc_rules.specs.MoveTables.{is_move_at}
use Rattle.tc_rules.specs.Views.{moves, move}
use Rattle.tc_rules.proofs.move_table.MoveTable.has_among.Given as goal

abbrev pub invariant-loop-number : goal.invariant-loop-number
invariant-loop-number l =
    list_any (is_move_at (moves l.modes l.self.moves.items) (move l.modes l.sought)) l.among
    ≡ list_any (is_move_at (moves l.modes l.self.moves.items) (move l.modes l.sought)) (drop l.number-index l.among)
