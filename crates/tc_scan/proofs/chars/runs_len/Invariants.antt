use Rattle.std.proofs.Common.{◌-◌, ◌≤◌, length, take}
use Rattle.tc_model.specs.Names.{IsChars}
use Rattle.tc_scan.proofs.chars.runs_len.Given as goal

abbrev pub invariant-loop-at : goal.invariant-loop-at
invariant-loop-at l = record { within : l.at ≤ length l.bytes; characters : IsChars (take l.at l.bytes) }

abbrev pub decreases-loop-at : goal.decreases-loop-at
decreases-loop-at l = length l.bytes - l.at
