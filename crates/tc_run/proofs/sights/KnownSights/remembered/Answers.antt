use Rattle.std.proofs.Common.{rules}
use Rattle.tc_run.proofs.sights.KnownSights.remembered.Goals as goal

pub returns-then-seen-marks : goal.returns-then-seen-marks
returns-then-seen-marks c = search rules
