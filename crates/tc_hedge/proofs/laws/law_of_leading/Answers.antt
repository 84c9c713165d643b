use Rattle.tc_hedge.proofs.Leading.{leads_exactly}
use Rattle.tc_hedge.proofs.laws.law_of_leading.Goals as goal

pub returns : goal.returns
returns c = leads_exactly
