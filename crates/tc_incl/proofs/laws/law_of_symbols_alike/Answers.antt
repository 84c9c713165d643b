use Rattle.tc_incl.proofs.Alike.{alike_wrap_alike}
use Rattle.tc_incl.proofs.laws.law_of_symbols_alike.Goals as goal

pub returns : goal.returns
returns c = alike_wrap_alike
