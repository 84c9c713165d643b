use Rattle.std.proofs.Common.{◌≡◌, length, take, flat_map}
use Rattle.tc_rules.specs.Gathered.{bodies}
use Rattle.tc_rules.specs.Usages.{eaches_in_usage}
use Rattle.tc_rules.specs.Views.{usages}
use Rattle.tc_rules.proofs.Collected.{ArePut}
use Rattle.tc_rules.proofs.gather.all_eaches.Given as goal

abbrev pub invariant-loop-usage : goal.invariant-loop-usage
invariant-loop-usage l =
    (length l.bodies.items ≡ l.sheet.eaches) × ArePut (bodies l.bodies.items) (flat_map eaches_in_usage (usages (take l.usage-index l.used)))
