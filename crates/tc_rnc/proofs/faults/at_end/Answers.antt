use Rattle.std.proofs.Common.{ap}
use Rattle.std.specs.Option.{option_map}
use Rattle.tc_model.specs.CompactSyntaxUnread as u
use Rattle.tc_model.specs.Views.{place}
use Rattle.tc_rnc.specs.Refusals.{malformed, unsupported}
use Rattle.tc_rnc.proofs.faults.at_end.Goals as goal

pub returns-in-Some : goal.returns-in-Some
returns-in-Some c = unsupported (u.unclosed (ap (option_map place) c.in-Some.is))

pub returns-in-None : goal.returns-in-None
returns-in-None c = malformed (u.at_end (ap (option_map place) c.in-None.is))
