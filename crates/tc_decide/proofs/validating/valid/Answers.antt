use Rattle.tc_decide.proofs.Judged.{valid_decides, valid_limits}
use Rattle.tc_decide.proofs.validating.valid.Goals as goal

pub returns-clause-validity : goal.returns-clause-validity
returns-clause-validity c = λ x d a b. valid_decides x d c.valid_texts.result (c.valid_texts.ensures.found x d a b)

pub returns-clause-counted : goal.returns-clause-counted
returns-clause-counted c = valid_limits c.args.schema c.args.document.now c.valid_texts.result c.valid_texts.ensures

pub returns-clause-refused : goal.returns-clause-refused
returns-clause-refused c = c.valid_texts.ensures.refusal
