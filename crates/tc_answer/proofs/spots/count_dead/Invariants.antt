use Rattle.std.proofs.Common.{◌≡◌, ◌≤◌, ◌+◌, drop}
use Rattle.tc_answer.specs.SpotLines.{dead_count}
use Rattle.tc_answer.specs.SpotsSeen.{spot_uses}
use Rattle.tc_answer.proofs.spots.count_dead.Given as goal

abbrev pub invariant-loop-spot : goal.invariant-loop-spot
invariant-loop-spot l = record { sum : l.dead + dead_count (spot_uses (drop l.spot-index l.told)) ≡ dead_count (spot_uses l.told); few : l.dead ≤ l.spot-index }
