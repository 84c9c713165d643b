use Rattle.std.proofs.Common.{rules}
use Rattle.tc_run.proofs.visits.KnownNodes.remembered.Goals as goal

pub returns-then-known-marks : goal.returns-then-known-marks
returns-then-known-marks c = search rules
