use Rattle.std.proofs.Common.{◌≡◌, ◌+◌, drop}
use Rattle.tc_model.specs.Numbered.{number_of}
use Rattle.tc_model.specs.Numberings.{same_move}
use Rattle.tc_rules.specs.Views.{moves, move}
use Rattle.tc_rules.proofs.once.number_of_move.Given as goal

abbrev pub invariant-loop-i : goal.invariant-loop-i
invariant-loop-i l =
    number_of same_move (move l.modes l.sought) (moves l.modes l.numbered) ≡ number_of same_move (move l.modes l.sought) (moves l.modes (drop l.i l.numbered)) + l.i
