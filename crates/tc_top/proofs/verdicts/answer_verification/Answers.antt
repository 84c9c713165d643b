use Rattle.std.proofs.Common.{sym, subst}
use Rattle.std.proofs.lemmas.Result.{IfOk-weaker}
use Rattle.tc_answer.specs.AnswersSeen.{Says}
use Rattle.tc_top.specs.VerdictsSeen.{verification_answer}
use Rattle.tc_top.proofs.verdicts.answer_verification.Goals as goal

pub returns-in-Accepted : goal.returns-in-Accepted
returns-in-Accepted c = subst (λ v. Says c.accepted.result (verification_answer v)) (sym c.in-Accepted.is) c.accepted.ensures

pub returns-in-Rejected : goal.returns-in-Rejected
returns-in-Rejected c = IfOk-weaker c.rejected.result _ _ (λ said says. subst (λ v. Says said (verification_answer v)) (sym c.in-Rejected.is) says) c.rejected.ensures
