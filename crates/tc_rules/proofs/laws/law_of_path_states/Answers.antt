use Rattle.tc_rules.proofs.PathTold.{machine_tells}
use Rattle.tc_rules.proofs.laws.law_of_path_states.Goals as goal

pub returns : goal.returns
returns c = machine_tells
