use Rattle.std.proofs.Common.{sym, subst}
use Rattle.std.proofs.lemmas.Result.{IfOk-weaker}
use Rattle.tc_answer.specs.AnswersSeen.{Says}
use Rattle.tc_top.specs.VerdictsSeen.{equality_answer}
use Rattle.tc_top.proofs.verdicts.answer_equality.Goals as goal

pub returns-in-Same : goal.returns-in-Same
returns-in-Same c = subst (λ v. Says c.equal.result (equality_answer v)) (sym c.in-Same.is) c.equal.ensures

pub returns-in-FirstOnly : goal.returns-in-FirstOnly
returns-in-FirstOnly c = IfOk-weaker c.first_only.result _ _ (λ said says. subst (λ v. Says said (equality_answer v)) (sym c.in-FirstOnly.is) says) c.first_only.ensures

pub returns-in-SecondOnly : goal.returns-in-SecondOnly
returns-in-SecondOnly c = IfOk-weaker c.second_only.result _ _ (λ said says. subst (λ v. Says said (equality_answer v)) (sym c.in-SecondOnly.is) says) c.second_only.ensures
