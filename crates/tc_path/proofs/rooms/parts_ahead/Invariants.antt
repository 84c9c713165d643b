use Rattle.std.proofs.Common.{◌≤◌, ◌+◌, length}
use Rattle.tc_path.proofs.rooms.parts_ahead.Given as goal

abbrev pub invariant-loop-behind : goal.invariant-loop-behind
invariant-loop-behind l = l.count + length l.rest ≤ length l.tokens + 1

abbrev pub decreases-loop-behind : goal.decreases-loop-behind
decreases-loop-behind l = length l.rest
