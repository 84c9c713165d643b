use Rattle.std.proofs.Common.{◌≡◌, ◌++◌, map, drop}
use Rattle.tc_rules.specs.MoveTables.{move_on}
use Rattle.tc_rules.specs.Views.{moves, looks}
use Rattle.tc_rules.proofs.move_table.moves_on.Given as goal

abbrev pub invariant-loop-path : goal.invariant-loop-path
invariant-loop-path l = moves 0 l.found.items ++ map move_on (looks (drop l.path-index l.looked)) ≡ map move_on (looks l.looked)
