use Rattle.tc_dead.proofs.MarkSteps.{each_pushed}
use Rattle.tc_dead.proofs.marking.put_for_each.Goals as goal

pub returns : goal.returns
returns c = λ rest. each_pushed c.args.found.now.items c.push.new.self.items c.args.number c.args.path.now c.args.body c.in_ok-push.ensures.items rest
