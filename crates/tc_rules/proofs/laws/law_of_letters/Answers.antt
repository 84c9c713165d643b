use Rattle.tc_rules.proofs.PathTold.{trees_have_letters}
use Rattle.tc_rules.proofs.laws.law_of_letters.Goals as goal

pub returns : goal.returns
returns c = trees_have_letters
