use Rattle.std.proofs.Common.{◌≡◌, max, map, drop}
use Rattle.tc_beh.specs.Heights.{deepest, deepest_rule}
use Rattle.tc_model.specs.Views as see
use Rattle.tc_beh.proofs.calls.depth_of_sheet.Given as goal

abbrev pub invariant-loop-rule : goal.invariant-loop-rule
invariant-loop-rule l = max l.most (deepest_rule (map see.rule (drop l.rule-index l.rule-items))) ≡ deepest_rule (map see.rule l.rule-items)

abbrev pub invariant-loop-body : goal.invariant-loop-body
invariant-loop-body l =
    max l.most (deepest (map (λ b. see.body b.now) (drop l.body-index l.body-items))) ≡ max (deepest_rule (see.sheet l.sheet).rules) (deepest (map (λ b. see.body b.now) l.body-items))
