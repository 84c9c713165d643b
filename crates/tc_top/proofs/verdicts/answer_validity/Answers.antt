use Rattle.std.proofs.Common.{sym, subst}
use Rattle.tc_answer.specs.AnswersSeen.{Says}
use Rattle.tc_top.specs.VerdictsSeen.{validity_answer}
use Rattle.tc_top.proofs.verdicts.answer_validity.Goals as goal

pub returns-then-is_valid : goal.returns-then-is_valid
returns-then-is_valid c = subst (λ v. Says c.valid.result (validity_answer v)) (sym c.if-is_valid.true) c.valid.ensures

pub returns-else-is_valid : goal.returns-else-is_valid
returns-else-is_valid c = subst (λ v. Says c.invalid.result (validity_answer v)) (sym c.if-is_valid.false) c.invalid.ensures
