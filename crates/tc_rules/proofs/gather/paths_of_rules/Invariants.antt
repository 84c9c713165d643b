use Rattle.std.proofs.Common.{◌≡◌, take, map}
use Rattle.tc_model.specs.PathStates.{path_of_rules}
use Rattle.tc_model.specs.Views as see
use Rattle.tc_rules.proofs.gather.paths_of_rules.Given as goal

abbrev pub invariant-loop-rule : goal.invariant-loop-rule
invariant-loop-rule l = see.alternatives l.path.items ≡ path_of_rules (map see.rule (take l.rule-index l.sheet.rules.now))
