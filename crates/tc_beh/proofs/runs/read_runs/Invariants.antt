use Rattle.std.proofs.Common.{◌≡◌, length}
use Rattle.tc_rows.specs.Triples.{Triple}
use Rattle.tc_beh.specs.Opening.{IsBeside}
use Rattle.tc_beh.specs.Places.{IsPlaceIn}
use Rattle.tc_beh.specs.Runs.{AreRuns}
use Rattle.tc_beh.proofs.runs.read_runs.Given as goal

abbrev pub invariant-loop-rule : goal.invariant-loop-rule
invariant-loop-rule l = record {
  same : IsBeside l.place.output.now l.place.outputs.now l.fn.sets l.sets;
  count : length l.runs.items ≡ l.rule-index;
  known : (x : Triple) → IsPlaceIn x l.place → AreRuns x l.runs.items;
}
