use Rattle.std.proofs.Common.{◌≡◌, ◌++◌, drop, map, flat_map}
use Rattle.tc_model.specs.Views as see
use Rattle.tc_rules.specs.Usages.{usages_in}
use Rattle.tc_rules.specs.Views.{usages}
use Rattle.tc_rules.proofs.gather.usages_of_bodies.Given as goal

abbrev pub invariant-loop-body : goal.invariant-loop-body
invariant-loop-body l =
    usages l.found.items ++ flat_map usages_in (map (λ b. see.body b.now) (drop l.body-index l.bodies)) ≡ usages l.initial.found.items ++ flat_map usages_in (map (λ b. see.body b.now) l.bodies)
