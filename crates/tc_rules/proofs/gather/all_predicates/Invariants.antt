use Rattle.std.proofs.Common.{◌≡◌, ◌++◌, drop, flat_map}
use Rattle.tc_rules.specs.Usages.{predicates_in_usage}
use Rattle.tc_rules.specs.Views.{predicates, usages}
use Rattle.tc_rules.proofs.gather.all_predicates.Given as goal

abbrev pub invariant-loop-usage : goal.invariant-loop-usage
invariant-loop-usage l =
    predicates l.found.items ++ flat_map predicates_in_usage (usages (drop l.usage-index l.used)) ≡ predicates l.initial.found.items ++ flat_map predicates_in_usage (usages l.used)
