use Rattle.tc_hedge.proofs.Leading.{outputs_lead_exactly}
use Rattle.tc_hedge.proofs.laws.law_of_outputs.Goals as goal

pub returns : goal.returns
returns c = outputs_lead_exactly
