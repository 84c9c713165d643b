use Rattle.std.proofs.Common.{◌≡◌, ◌++◌, ℕ, drop, flat_map}
use Rattle.tc_rules.specs.Usages.{moves_in_usage}
use Rattle.tc_rules.specs.Views.{moves, usages}
use Rattle.tc_rules.proofs.gather.moves_of_usages.Given as goal

abbrev pub invariant-loop-usage : goal.invariant-loop-usage
invariant-loop-usage l =
    (k : ℕ) → moves k l.found.items ++ flat_map (moves_in_usage k) (usages (drop l.usage-index l.used)) ≡ moves k l.initial.found.items ++ flat_map (moves_in_usage k) (usages l.used)
