use Rattle.std.proofs.Common.{sym, subst}
use Rattle.std.proofs.lemmas.Result.{IfOk-weaker}
use Rattle.tc_answer.specs.AnswersSeen.{Says}
use Rattle.tc_top.specs.VerdictsSeen.{proof_answer}
use Rattle.tc_top.proofs.verdicts.answer_proof.Goals as goal

pub returns-in-Certified : goal.returns-in-Certified
returns-in-Certified c = subst (λ v. Says c.certificate.result (proof_answer v)) (sym c.in-Certified.is) c.certificate.ensures

pub returns-in-Unsafe : goal.returns-in-Unsafe
returns-in-Unsafe c = IfOk-weaker c.answer_unsafe.result _ _ (λ said says. subst (λ v. Says said (proof_answer v)) (sym c.in-Unsafe.is) says) c.answer_unsafe.ensures
