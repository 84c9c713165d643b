use Rattle.tc_dead.proofs.MarkSteps.{choice_pushed}
use Rattle.tc_dead.proofs.marking.put_choice.Goals as goal

pub returns : goal.returns
returns c = λ rest. choice_pushed c.args.found.now.items c.push.new.self.items c.args.branches c.args.last c.in_ok-push.ensures.items rest
