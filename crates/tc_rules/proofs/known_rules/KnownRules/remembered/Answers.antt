use Rattle.std.proofs.Common.{rules}
use Rattle.tc_rules.proofs.known_rules.KnownRules.remembered.Goals as goal

pub returns-then-known-marks : goal.returns-then-known-marks
returns-then-known-marks c = search rules
