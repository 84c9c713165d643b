use Rattle.std.proofs.Common.{sym, subst}
use Rattle.std.proofs.lemmas.Result.{IfOk-weaker}
use Rattle.tc_answer.specs.AnswersSeen.{Says}
use Rattle.tc_top.specs.VerdictsSeen.{limit_answer}
use Rattle.tc_top.proofs.verdicts.answer_limit.Goals as goal

pub returns-in-Texts : goal.returns-in-Texts
returns-in-Texts c = IfOk-weaker c.limit.result _ _ (λ said says. subst (λ k. Says said (limit_answer k c.args.number)) (sym c.in-Texts.is) says) c.limit.ensures

pub returns-in-Rows : goal.returns-in-Rows
returns-in-Rows c = IfOk-weaker c.rows_limit.result _ _ (λ said says. subst (λ k. Says said (limit_answer k c.args.number)) (sym c.in-Rows.is) says) c.rows_limit.ensures

pub returns-in-Nodes : goal.returns-in-Nodes
returns-in-Nodes c = IfOk-weaker c.counterexample_limit.result _ _ (λ said says. subst (λ k. Says said (limit_answer k c.args.number)) (sym c.in-Nodes.is) says) c.counterexample_limit.ensures

pub returns-in-Certificate : goal.returns-in-Certificate
returns-in-Certificate c = IfOk-weaker c.certificate_limit.result _ _ (λ said says. subst (λ k. Says said (limit_answer k c.args.number)) (sym c.in-Certificate.is) says) c.certificate_limit.ensures

pub returns-in-Work : goal.returns-in-Work
returns-in-Work c = IfOk-weaker c.work_limit.result _ _ (λ said says. subst (λ k. Says said (limit_answer k c.args.number)) (sym c.in-Work.is) says) c.work_limit.ensures

pub returns-in-Open : goal.returns-in-Open
returns-in-Open c = IfOk-weaker c.open_limit.result _ _ (λ said says. subst (λ k. Says said (limit_answer k c.args.number)) (sym c.in-Open.is) says) c.open_limit.ensures

pub returns-in-Pieces : goal.returns-in-Pieces
returns-in-Pieces c = IfOk-weaker c.answer_measure.result _ _ (λ said says. subst (λ k. Says said (limit_answer k c.args.number)) (sym c.in-Pieces.is) says) c.answer_measure.ensures
