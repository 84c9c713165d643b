use Rattle.std.proofs.Common.{sym, subst}
use Rattle.std.proofs.lemmas.Result.{IfOk-weaker}
use Rattle.tc_answer.specs.AnswersSeen.{Says}
use Rattle.tc_top.specs.VerdictsSeen.{measure_answer}
use Rattle.tc_top.proofs.verdicts.answer_measure.Goals as goal

pub returns-in-Tag : goal.returns-in-Tag
returns-in-Tag c = IfOk-weaker c.tag_limit.result _ _ (λ said says. subst (λ m. Says said (measure_answer m)) (sym c.in-Tag.is) says) c.tag_limit.ensures

pub returns-in-Names : goal.returns-in-Names
returns-in-Names c = IfOk-weaker c.names_limit.result _ _ (λ said says. subst (λ m. Says said (measure_answer m)) (sym c.in-Names.is) says) c.names_limit.ensures
