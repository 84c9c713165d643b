use Rattle.tc_close.proofs.Least.{costs_are_least}
use Rattle.tc_close.proofs.laws.law_of_least_costs.Goals as goal

pub returns : goal.returns
returns c = costs_are_least
