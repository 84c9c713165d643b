use Rattle.std.proofs.Common.{◌≤◌, List, ℕ, IsUtf8, length}
use Rattle.tc_tags.proofs.FormLaws.{Step}
use Rattle.tc_tags.proofs.tags.value_at.Given as goal

abbrev pub invariant-loop-after : goal.invariant-loop-after
invariant-loop-after l = record {
  step : (read : List ℕ) × Step l.quote l.initial.rest read l.rest;
  text : IsUtf8 l.rest;
  within : length l.rest ≤ l.total;
}

abbrev pub decreases-loop-after : goal.decreases-loop-after
decreases-loop-after l = length l.rest
