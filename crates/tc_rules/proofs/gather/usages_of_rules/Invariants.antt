use Rattle.std.proofs.Common.{◌≡◌, ◌++◌, drop, map}
use Rattle.tc_model.specs.Views as see
use Rattle.tc_rules.specs.Usages.{usages_of_rules}
use Rattle.tc_rules.specs.Views.{usages}
use Rattle.tc_rules.proofs.gather.usages_of_rules.Given as goal

abbrev pub invariant-loop-rule : goal.invariant-loop-rule
invariant-loop-rule l =
    usages l.found.items ++ usages_of_rules (map see.rule (drop l.rule-index l.rules)) ≡ usages l.initial.found.items ++ usages_of_rules (map see.rule l.rules)
