use Rattle.std.proofs.Common.{ap}
use Rattle.tc_tags.proofs.ChainLaws.{newest_at}
use Rattle.tc_tags.proofs.chains.Chains.newest.Goals as goal

pub returns : goal.returns
returns c =
    newest_at c.self.inside.links.items c.self.inside.newest.items c.args.self.now.chains c.args.chain c.index.result.now c.self.invariant.4 c.self.invariant.2 c.requires c.index.ensures
    (ap (λ t. t.chains) c.self.view_is)
