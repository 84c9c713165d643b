use Rattle.std.proofs.Common.{sym, subst}
use Rattle.std.proofs.lemmas.Result.{IfOk-weaker}
use Rattle.tc_answer.specs.AnswersSeen.{Says}
use Rattle.tc_top.specs.VerdictsSeen.{verdict_answer}
use Rattle.tc_top.proofs.verdicts.answer_verdict.Goals as goal

pub returns-in-Safe : goal.returns-in-Safe
returns-in-Safe c = IfOk-weaker c.safe.result _ _ (λ said says. subst (λ v. Says said (verdict_answer v)) (sym c.in-Safe.is) says) c.safe.ensures

pub returns-in-Unsafe : goal.returns-in-Unsafe
returns-in-Unsafe c = IfOk-weaker c.answer_unsafe.result _ _ (λ said says. subst (λ v. Says said (verdict_answer v)) (sym c.in-Unsafe.is) says) c.answer_unsafe.ensures
