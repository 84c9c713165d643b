use Rattle.std.proofs.Common.{◌≤◌, length}
use Rattle.tc_beh.proofs.runs.longest_run.Given as goal

abbrev pub invariant-loop-place : goal.invariant-loop-place
invariant-loop-place l = record {
  from : l.from ≤ l.place;
  order : l.longest.0 ≤ l.longest.1;
  within : l.longest.1 ≤ length l.body;
}
