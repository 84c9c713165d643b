use Rattle.tc_rules.proofs.Searched.{looked}
use Rattle.tc_rules.proofs.rules.Rules.graph.Goals as goal

pub returns : goal.returns
returns c = looked c.args.self.now.graphs.items c.deref.result.now c.args.place c.get.result c.deref.ensures.value c.get.ensures.lookup
