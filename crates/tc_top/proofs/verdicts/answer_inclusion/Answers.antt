use Rattle.std.proofs.Common.{sym, subst}
use Rattle.std.proofs.lemmas.Result.{IfOk-weaker}
use Rattle.tc_answer.specs.AnswersSeen.{Says}
use Rattle.tc_top.specs.VerdictsSeen.{inclusion_answer}
use Rattle.tc_top.proofs.verdicts.answer_inclusion.Goals as goal

pub returns-in-Included : goal.returns-in-Included
returns-in-Included c = IfOk-weaker c.included.result _ _ (λ said says. subst (λ v. Says said (inclusion_answer v)) (sym c.in-Included.is) says) c.included.ensures

pub returns-in-Not : goal.returns-in-Not
returns-in-Not c = IfOk-weaker c.not_included.result _ _ (λ said says. subst (λ v. Says said (inclusion_answer v)) (sym c.in-Not.is) says) c.not_included.ensures
