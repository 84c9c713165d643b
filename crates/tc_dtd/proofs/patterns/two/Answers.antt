use Rattle.std.proofs.Common.{ap}
use Rattle.tc_model.specs.Views.{patterns}
use Rattle.tc_dtd.proofs.patterns.two.Goals as goal

pub returns : goal.returns
returns c = ap patterns c.in_ok-ps.ensures
