use Rattle.tc_rules.proofs.Searched.{looked}
use Rattle.tc_rules.proofs.rules.Rules.move_at.Goals as goal

pub returns : goal.returns
returns c = looked c.args.self.now.moves.items c.deref.result.now c.args.place c.get.result c.deref.ensures.value c.get.ensures.lookup
