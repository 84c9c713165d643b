use Rattle.std.proofs.Common.{◌≡◌, ℕ, length, Some, slice_get, true}
use Rattle.tc_rows.specs.Triples.{Triple, sheet}
use Rattle.tc_beh.specs.Runs.{rule_body}
use Rattle.tc_beh.specs.Stands.{IsRulesIn}
use Rattle.tc_close.specs.LookFree.{IsFreeBody}
use Rattle.tc_close.proofs.look_free.FreeBodies.of.Given as goal

abbrev pub invariant-loop-rule : goal.invariant-loop-rule
invariant-loop-rule l = record {
  count : length l.free.items ≡ l.rule-index;
  rules : (x : Triple) (n : ℕ) → IsRulesIn x l.rules → slice_get l.free.items n ≡ Some true → IsFreeBody l.calls (rule_body (sheet x) n);
}
