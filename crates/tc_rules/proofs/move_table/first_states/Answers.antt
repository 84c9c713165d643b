use Rattle.tc_model.specs.Views as see
use Rattle.tc_rules.proofs.MoveTables.{one_state, no_state}
use Rattle.tc_rules.proofs.move_table.first_states.Goals as goal

pub returns-then-has_step-clause-count : goal.returns-then-has_step-clause-count
returns-then-has_step-clause-count c = one_state (see.path c.args.path.now) c.has_step.result c.has_step.ensures c.if-has_step.true

pub returns-else-has_step-clause-count : goal.returns-else-has_step-clause-count
returns-else-has_step-clause-count c = no_state (see.path c.args.path.now) c.has_step.result c.has_step.ensures c.if-has_step.false
