use Rattle.tc_beh.proofs.AlikeLaws.{alike_alike}
use Rattle.tc_beh.proofs.alike.law_of_alike.Goals as goal

pub returns : goal.returns
returns c = alike_alike
