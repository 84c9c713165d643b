use Rattle.tc_dead.proofs.MarkSteps.{pushed_so}
use Rattle.tc_dead.proofs.marking.put.Goals as goal

pub returns : goal.returns
returns c = λ rest. pushed_so c.args.found.now.items c.push.new.self.items c.args.instruction.now c.in_ok-push.ensures.items rest
