use Rattle.std.proofs.Common.{List, ap, ◌∙◌, map, arith}
use Rattle.std.proofs.lemmas.List.{take_all}
use Rattle.tc_model.specs.PathStates.{path_of_rules}
use Rattle.tc_model.specs.Views as see
use Rattle.tc_model.specs.declared.sheet.Rule.{Rule}
use Rattle.tc_rules.proofs.Gathered.{rule_at}
use Rattle.tc_rules.proofs.gather.paths_of_rules.Goals as goal

pub loop-rule-preserved : goal.loop-rule-preserved
loop-rule-preserved c =
    rule_at _ _ _ c.args.sheet.now.rules.now c.loop-rule.rule-index _ (omega arith) c.in_ok-push.ensures.items c.steps_of-steps.ensures c.loop-rule.invariant

pub loop-rule-init : goal.loop-rule-init
loop-rule-init c = ap see.alternatives c.new-path.ensures.items

pub returns : goal.returns
returns c = c.loop-rule.invariant ∙ ap (λ (rs : List Rule). path_of_rules (map see.rule rs)) (take_all c.loop-rule.rule-index _ c.loop-rule-test.false)
