use Rattle.tc_close.proofs.Verdict.{lists_tell}
use Rattle.tc_close.proofs.laws.law_of_the_verdict.Goals as goal

pub returns : goal.returns
returns c = lists_tell
