use Rattle.std.proofs.Common.{◌≡◌, ◌++◌, drop}
use Rattle.tc_model.specs.Numbered.{each_once, each_once_after}
use Rattle.tc_model.specs.Numberings.{same_move}
use Rattle.tc_model.specs.Sheets as s
use Rattle.tc_rules.specs.Jobs.{AreJobs}
use Rattle.tc_rules.specs.MoveTables.{IsFiled}
use Rattle.tc_rules.specs.Views.{moves, predicates}
use Rattle.tc_rules.proofs.move_table.moves_once.Given as goal

abbrev pub invariant-loop-sought : goal.invariant-loop-sought
invariant-loop-sought l =
    IsFiled (predicates l.numbered) l.modes l.table
    × (each_once same_move (moves l.modes l.found) ≡ moves l.modes l.table.moves.items ++ each_once_after same_move (moves l.modes l.table.moves.items) (moves l.modes (drop l.sought-index l.found)))
    × ((x : s.Sheet) → AreJobs x l.found → AreJobs x l.table.moves.items)
