use Rattle.tc_hedge.proofs.Leading.{pairs_surround}
use Rattle.tc_hedge.proofs.laws.law_of_elements.Goals as goal

pub returns : goal.returns
returns c = pairs_surround
