use Rattle.std.proofs.Common.{sym, subst}
use Rattle.std.proofs.lemmas.Result.{IfOk-weaker}
use Rattle.tc_answer.specs.AnswersSeen.{Says}
use Rattle.tc_top.specs.VerdictsSeen.{upgrade_answer}
use Rattle.tc_top.proofs.verdicts.answer_upgrade.Goals as goal

pub returns-in-Text : goal.returns-in-Text
returns-in-Text c = subst (λ v. Says c.certificate.result (upgrade_answer v)) (sym c.in-Text.is) c.certificate.ensures

pub returns-in-Malformed : goal.returns-in-Malformed
returns-in-Malformed c = IfOk-weaker c.rejected.result _ _ (λ said says. subst (λ v. Says said (upgrade_answer v)) (sym c.in-Malformed.is) says) c.rejected.ensures
