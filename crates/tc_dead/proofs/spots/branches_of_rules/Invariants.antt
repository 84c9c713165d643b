use Rattle.std.proofs.Common.{◌≡◌, ◌+◌, drop, map}
use Rattle.tc_model.specs.Views as see
use Rattle.tc_dead.specs.Spots.{branches_of_all}
use Rattle.tc_dead.proofs.spots.branches_of_rules.Given as goal

abbrev pub invariant-loop-rule : goal.invariant-loop-rule
invariant-loop-rule l = l.count + branches_of_all (map (λ r. see.body r.body.now) (drop l.rule-index l.rules)) ≡ branches_of_all (map (λ r. see.body r.body.now) l.rules)
