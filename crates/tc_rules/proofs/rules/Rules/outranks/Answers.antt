use Rattle.std.proofs.Common.{rules}
use Rattle.tc_rules.proofs.rules.Rules.outranks.Goals as goal

pub returns : goal.returns
returns c = search rules
