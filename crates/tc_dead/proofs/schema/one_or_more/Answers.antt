use Rattle.tc_dead.proofs.PlainSeen.{repeated}
use Rattle.tc_dead.proofs.schema.one_or_more.Goals as goal

pub returns : goal.returns
returns c = repeated _ c.args.pattern c.in_ok-repeated.ensures
