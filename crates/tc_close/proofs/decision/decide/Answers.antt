use Rattle.tc_close.proofs.decision.decide.Goals as goal

pub returns-clause-decision : goal.returns-clause-decision
returns-clause-decision c = c.decide_over.ensures.decision

pub returns-clause-cause : goal.returns-clause-cause
returns-clause-cause c = c.decide_over.ensures.cause
