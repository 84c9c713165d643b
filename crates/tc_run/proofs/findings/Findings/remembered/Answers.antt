use Rattle.std.proofs.Common.{rules}
use Rattle.tc_run.proofs.findings.Findings.remembered.Goals as goal

pub returns-then-known-look : goal.returns-then-known-look
returns-then-known-look c = search rules
