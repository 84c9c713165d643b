use Rattle.tc_incl.proofs.inclusion.included.Goals as goal

pub returns-clause-answer : goal.returns-clause-answer
returns-clause-answer c = c.included_over.ensures.answer

pub returns-clause-cause : goal.returns-clause-cause
returns-clause-cause c = c.included_over.ensures.cause

pub included_over-requires-clause-over : goal.included_over-requires-clause-over
included_over-requires-clause-over c = record { some = c.requires.schemas; schemas = λ x are. are }
