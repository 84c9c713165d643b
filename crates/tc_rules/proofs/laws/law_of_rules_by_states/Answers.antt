use Rattle.tc_rules.proofs.PathTold.{states_rule, roots_rule}
use Rattle.tc_rules.proofs.laws.law_of_rules_by_states.Goals as goal

pub returns-clause-nodes : goal.returns-clause-nodes
returns-clause-nodes c = states_rule

pub returns-clause-roots : goal.returns-clause-roots
returns-clause-roots c = roots_rule
