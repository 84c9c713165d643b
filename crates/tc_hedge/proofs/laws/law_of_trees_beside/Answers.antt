use Rattle.tc_hedge.proofs.Leading.{pairs_compose}
use Rattle.tc_hedge.proofs.laws.law_of_trees_beside.Goals as goal

pub returns : goal.returns
returns c = pairs_compose
