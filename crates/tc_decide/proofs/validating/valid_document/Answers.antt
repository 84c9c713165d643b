use Rattle.tc_decide.proofs.validating.valid_document.Goals as goal

pub returns-in-Ok : goal.returns-in-Ok
returns-in-Ok c = λ x read. c.judge_text.ensures x (c.in-Ok.ensures.ok x read)

pub returns-in-Err : goal.returns-in-Err
returns-in-Err c = λ x read. c.tell_limit.ensures x (c.in-Err.ensures.err x read)
