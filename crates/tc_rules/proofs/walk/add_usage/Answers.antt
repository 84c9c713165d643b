use Rattle.std.proofs.Common.{◌∙◌, ap}
use Rattle.tc_rules.specs.Views.{usage, usages}
use Rattle.tc_rules.proofs.RowSteps.{map_push}
use Rattle.tc_rules.proofs.walk.add_usage.Goals as goal

pub returns : goal.returns
returns c = ap usages c.in_ok-push.ensures.items ∙ map_push usage c.args.found.now.items c.args.usage
