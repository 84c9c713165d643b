use Rattle.tc_rules.proofs.EmptyStates.{empty_selects_none}
use Rattle.tc_rules.proofs.PathTold.{states_select}
use Rattle.tc_rules.proofs.laws.law_of_selection.Goals as goal

pub returns-clause-hits : goal.returns-clause-hits
returns-clause-hits c = states_select

pub returns-clause-nothing : goal.returns-clause-nothing
returns-clause-nothing c = empty_selects_none
