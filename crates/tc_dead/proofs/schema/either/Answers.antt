use Rattle.tc_dead.proofs.PlainSeen.{one_or_other}
use Rattle.tc_dead.proofs.schema.either.Goals as goal

pub returns : goal.returns
returns c = one_or_other _ c.args.one c.args.other c.in_ok-both.ensures
