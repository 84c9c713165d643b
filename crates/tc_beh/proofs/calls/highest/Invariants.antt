use Rattle.std.proofs.Common.{◌≡◌, max, map, drop}
use Rattle.tc_beh.specs.Heights.{highest, highest_rule}
use Rattle.tc_model.specs.Views as see
use Rattle.tc_beh.proofs.calls.highest.Given as goal

abbrev pub invariant-loop-here : goal.invariant-loop-here
invariant-loop-here l = max l.most (highest (drop l.here-index l.heights)) ≡ highest l.heights

abbrev pub invariant-loop-rule : goal.invariant-loop-rule
invariant-loop-rule l =
    max l.most (highest_rule l.heights (map see.rule (drop l.rule-index l.rules))) ≡ max (highest l.heights) (highest_rule l.heights (map see.rule l.rules))
