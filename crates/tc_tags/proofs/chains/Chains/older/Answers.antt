use Rattle.std.proofs.Common.{ap}
use Rattle.tc_tags.proofs.ChainLaws.{older_at}
use Rattle.tc_tags.proofs.chains.Chains.older.Goals as goal

pub returns : goal.returns
returns c =
    older_at c.self.inside.links.items c.args.self.now.chains c.args.entry c.index.result.now c.self.invariant.3 c.requires.some c.requires.within c.index.ensures
    (ap (λ t. t.chains) c.self.view_is)
