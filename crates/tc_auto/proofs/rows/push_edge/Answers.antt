use Rattle.std.proofs.Common.{rules}
use Rattle.tc_auto.proofs.rows.push_edge.Goals as goal

pub returns-in_ok-push : goal.returns-in_ok-push
returns-in_ok-push c = search rules

pub returns-else-step-state : goal.returns-else-step-state
returns-else-step-state c = search rules
