use Rattle.tc_rules.proofs.Counted.{first_none, first_some, first_past}
use Rattle.tc_rules.proofs.rules.Rules.first_of.Goals as goal

pub returns-then-is_empty : goal.returns-then-is_empty
returns-then-is_empty c = first_none c.args.self.now.graphs.items c.args.self.now.starts.items c.args.place c.is_empty.result c.in-Some.graph.now c.in-Some.ensures c.is_empty.ensures c.if-is_empty.true

pub returns : goal.returns
returns c = first_some c.args.self.now.graphs.items c.args.self.now.starts.items c.args.place c.start.result c.is_empty.result c.in-Some.graph.now c.in-Some.ensures c.is_empty.ensures c.if-is_empty.false c.start.ensures

pub returns-in_default : goal.returns-in_default
returns-in_default c = first_past c.args.self.now.graphs.items c.args.self.now.starts.items c.args.place c.in_default.ensures
