use Rattle.std.proofs.Common.{◌≡◌, ◌≤◌, map, drop}
use Rattle.tc_path.specs.Views.{token}
use Rattle.tc_path.specs.Reasons as reasons
use Rattle.tc_path.proofs.reasons.first_reason.Given as goal

abbrev pub invariant-loop-index : goal.invariant-loop-index
invariant-loop-index l = record {
  same : reasons.first_from l.context l.brackets l.before (map token (drop l.index l.tokens)) ≡ reasons.first_reason l.context (map token l.tokens);
  count : l.brackets ≤ l.index;
}
