use Rattle.tc_decide.proofs.Runs.{run_decides, gives, limits}
use Rattle.tc_decide.proofs.running.run.Goals as goal

pub returns-clause-running : goal.returns-clause-running
returns-clause-running c = λ s d a b. gives s d c.run_texts.result (c.run_texts.ensures.found s d a b)

pub returns-clause-limited : goal.returns-clause-limited
returns-clause-limited c = λ s d a b. run_decides s d c.run_texts.result (c.run_texts.ensures.found s d a b)

pub returns-clause-counted : goal.returns-clause-counted
returns-clause-counted c = λ s d a b. limits s d c.run_texts.result (c.run_texts.ensures.found s d a b)

pub returns-clause-refused : goal.returns-clause-refused
returns-clause-refused c = c.run_texts.ensures.refusal
