use Rattle.std.proofs.Common.{◌≡◌, ◌++◌, drop, flat_map}
use Rattle.tc_answer.specs.SpotLines.{spot_line}
use Rattle.tc_answer.specs.SpotsSeen.{spot_uses}
use Rattle.tc_answer.proofs.spots.put_spots.Given as goal

abbrev pub invariant-loop-spot : goal.invariant-loop-spot
invariant-loop-spot l = l.text.bytes.items ++ flat_map spot_line (spot_uses (drop l.spot-index l.told)) ≡ l.initial.text.bytes.items ++ flat_map spot_line (spot_uses l.told)
