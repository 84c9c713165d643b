use Rattle.tc_model.proofs.UniqueRule.{last_of_greatest, none_without}
use Rattle.tc_model.proofs.laws.law_of_rules.Goals as goal

pub returns-clause-last_of_greatest : goal.returns-clause-last_of_greatest
returns-clause-last_of_greatest c = last_of_greatest

pub returns-clause-none_without : goal.returns-clause-none_without
returns-clause-none_without c = none_without
