use Rattle.std.proofs.Common.{rules}
use Rattle.tc_mat.proofs.products.is_unit.Goals as goal

pub returns : goal.returns
returns c = search rules

pub loop-word-preserved : goal.loop-word-preserved
loop-word-preserved c = search rules
