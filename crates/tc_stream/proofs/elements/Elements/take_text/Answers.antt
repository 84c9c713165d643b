use Rattle.tc_stream.proofs.PathLaws.{steps_text}
use Rattle.tc_stream.proofs.elements.Elements.take_text.Goals as goal

pub returns-clause-keeps : goal.returns-clause-keeps
returns-clause-keeps c = λ ls scope k. k

pub returns-clause-ready : goal.returns-clause-ready
returns-clause-ready c = λ r. r

pub returns-clause-steps : goal.returns-clause-steps
returns-clause-steps c = λ x ls run text white w.
    steps_text x c.args.self.now.validity c.take_text.new.self ls run text c.take_text.ensures.steps c.take_text.ensures.levels c.take_text.ensures.depth c.take_text.ensures.text white w
