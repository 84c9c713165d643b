use Rattle.tc_model.proofs.SchemaStates.{state_counts_agree}
use Rattle.tc_auto.proofs.laws.law_of_state_counts.Goals as goal

pub returns : goal.returns
returns c = state_counts_agree
