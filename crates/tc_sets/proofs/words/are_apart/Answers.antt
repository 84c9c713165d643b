use Rattle.std.proofs.Common.{rules}
use Rattle.tc_sets.proofs.words.are_apart.Goals as goal

pub loop-k-preserved : goal.loop-k-preserved
loop-k-preserved c = search rules
