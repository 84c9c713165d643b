use Rattle.std.proofs.Common.{◌≡◌, ◌++◌, drop, flat_map}
use Rattle.tc_rules.specs.Usages.{looks_in_usage}
use Rattle.tc_rules.specs.Views.{looks, usages}
use Rattle.tc_rules.proofs.gather.looks_of_usages.Given as goal

abbrev pub invariant-loop-usage : goal.invariant-loop-usage
invariant-loop-usage l =
    looks l.found.items ++ flat_map looks_in_usage (usages (drop l.usage-index l.used)) ≡ looks l.initial.found.items ++ flat_map looks_in_usage (usages l.used)
