use Rattle.std.proofs.Common.{◌≡◌, take}
use Rattle.tc_beh.specs.Rooms.{flagged}
use Rattle.tc_beh.proofs.lines.places_of.Given as goal

abbrev pub invariant-loop-place : goal.invariant-loop-place
invariant-loop-place l = l.list ≡ flagged l.first (take l.place l.flags)
