use Rattle.tc_model.proofs.Unique.{instantiates_unique}
use Rattle.tc_model.proofs.Total.{instantiates_total, one_result}
use Rattle.tc_model.proofs.laws.law_of_results.Goals as goal

pub returns-clause-unique : goal.returns-clause-unique
returns-clause-unique c = instantiates_unique

pub returns-clause-total : goal.returns-clause-total
returns-clause-total c = instantiates_total

pub returns-clause-one_result : goal.returns-clause-one_result
returns-clause-one_result c = one_result
