use Rattle.std.proofs.Common.{◌∙◌}
use Rattle.tc_top.proofs.program.exit_code.Goals as goal

pub returns : goal.returns
returns c = c.from.ensures ∙ c.number.ensures
