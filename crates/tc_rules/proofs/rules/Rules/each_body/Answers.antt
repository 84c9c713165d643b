use Rattle.tc_rules.proofs.Counted.{body_told}
use Rattle.tc_rules.proofs.rules.Rules.each_body.Goals as goal

pub returns : goal.returns
returns c = λ symbols f h k e. body_told symbols c.args.self.now h f c.args.each _ c.requires c.index.ensures k e
